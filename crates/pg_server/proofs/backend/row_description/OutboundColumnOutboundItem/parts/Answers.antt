use Rattle.std.proofs.Common.{◌≡◌, ℕ, ◌<◌, ◌^◌, List, ◌++◌, refl, sym, ap, ◌∙◌, rules, subst}
use Rattle.std.specs.Int.{w16, w32}
use Rattle.std.proofs.lemmas.Int.{to_z-of_z}
use mir.Val.{SFits, of_z}
use Rattle.pg_base.specs.Numbers.{be16, be32}
use Rattle.pg_base.specs.Part.{both, both_from_last, number16, number32}
use Rattle.pg_base.specs.Tagged.{IsSame}
use Rattle.pg_base.specs.Ended.{ended}
use Rattle.pg_format.specs.Format.Parts.{complement, FitsSigned}
use Rattle.pg_format.specs.Messages as page
use Rattle.pg_server.specs.Backend.OutboundItem.{item_part, holds_nul, text_part}
use Rattle.pg_server.specs.Backend.RowDescription.{column_of, IsColumnInRange}
use Rattle.pg_server.specs.declared.backend.row_description.OutboundColumn.{OutboundColumn}
use Rattle.pg_server.proofs.BackendNumbersLemmas.{complement_16, complement_32, fits_16, fits_32, number_of_table, number_of_attribute}
use Rattle.pg_server.proofs.backend.row_description.OutboundColumnOutboundItem.parts.Goals as goal

same_bytes : (name t u a b k s r m n f g : List ℕ) → t ≡ u → a ≡ b → s ≡ r → m ≡ n → f ≡ g
    → name ++ (t ++ (a ++ (k ++ (s ++ (m ++ f))))) ≡ name ++ (u ++ (b ++ (k ++ (r ++ (n ++ g)))))
same_bytes name t u a b k s r m n f g et ea es em ef = cc

module _ (column : OutboundColumn) (a s m f : ℕ) (is_a : a ≡ of_z w16 column.attribute) (is_s : s ≡ of_z w16 column.size) (is_m : m ≡ of_z w32 column.modifier) (is_f : f ≡ of_z w16 column.format) where
  of_parts : SFits w16 column.attribute → SFits w16 column.size → SFits w32 column.modifier → SFits w16 column.format
      → IsSame (both_from_last (text_part column.name.now) (both (number32 column.table.0) (both (number16 a) (both (number32 column.data_type.0) (both (number16 s) (both (number32 m) (number16 f)))))))
      (item_part page.column (λ (column : page.Column). holds_nul column.name) IsColumnInRange (column_of column))
  of_parts fits_a fits_s fits_m fits_f =
      let table = sym (number_of_table column.table.0) in
      let attribute = sym (number_of_attribute column.attribute) in
      record {
        text = same_bytes (ended column.name.now) (be32 column.table.0) (be32 (page.table_number (page.table column.table.0))) (be16 a) (complement 2 (page.attribute_number (page.attribute column.attribute))) (be32 column.data_type.0) (be16 s) (complement 2 column.size) (be32 m) (complement 4 column.modifier) (be16 f) (complement 2 column.format) (ap be32 table) (ap be16 is_a ∙ complement_16 column.attribute ∙ ap (complement 2) attribute) (ap be16 is_s ∙ complement_16 column.size) (ap be32 is_m ∙ complement_32 column.modifier) (ap be16 is_f ∙ complement_16 column.format);
        fault = refl;
        range = λ it. record {
          is_table = ap page.table (sym table);
          is_attribute = ap page.attribute (sym attribute);
          relation_id = subst (λ n. n < 2 ^ 32) table it.1.0;
          relation_attribute_no = subst (FitsSigned 2) attribute (fits_16 column.attribute fits_a);
          data_type_id = it.1.1.1.0;
          data_type_size = fits_16 column.size fits_s;
          type_modifier = fits_32 column.modifier fits_m;
          format = fits_16 column.format fits_f;
        };
      }

pub returns : goal.returns
returns c =
    let column = c.args.self.now in
    let a_fits : SFits w16 column.attribute = search rules in
    let s_fits : SFits w16 column.size = search rules in
    let m_fits : SFits w32 column.modifier = search rules in
    let f_fits : SFits w16 column.format = search rules in
    of_parts column _ _ _ _
    (c.cast_unsigned-4.ensures ∙ ap (of_z w16) (to_z-of_z w16 column.attribute a_fits))
    (c.cast_unsigned-3.ensures ∙ ap (of_z w16) (to_z-of_z w16 column.size s_fits))
    (c.cast_unsigned.ensures ∙ ap (of_z w32) (to_z-of_z w32 column.modifier m_fits))
    (c.cast_unsigned-2.ensures ∙ ap (of_z w16) (to_z-of_z w16 column.format f_fits))
    a_fits s_fits m_fits f_fits
