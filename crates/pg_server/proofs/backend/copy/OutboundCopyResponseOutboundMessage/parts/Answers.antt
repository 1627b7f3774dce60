use Rattle.std.proofs.Common.{◌≡◌, ℕ, ℤ, List, [], ◌∷◌, ◌++◌, length, map, map-id, ap, ◌∙◌, rules}
use Rattle.std.specs.Int.{w8}
use Rattle.std.specs.List.{flat_map}
use Rattle.std.proofs.lemmas.Int.{to_z-of_z}
use mir.Val.{SFits, of_z}
use Rattle.pg_base.specs.Numbers.{be16}
use Rattle.pg_format.specs.Format.Parts.{complement}
use Rattle.pg_server.specs.Backend.OutboundItem.{too_many, max_signed}
use Rattle.pg_server.proofs.BackendOutboundItemLemmas.{count_alone}
use Rattle.pg_server.proofs.BackendNumbersLemmas.{complement_8, fits_8}
use Rattle.pg_server.proofs.backend.copy.OutboundCopyResponseOutboundMessage.parts.Goals as goal

same_bytes : (a b n c d : List ℕ) → a ≡ b → c ≡ d → a ++ (n ++ c) ≡ b ++ (n ++ d)
same_bytes a b n c d e f = cc

pub returns : goal.returns
returns c =
    let response = c.args.self.now in
    let codes = response.format_codes.now in
    let fits : SFits w8 response.format = search rules in
    let whole = c.cast_unsigned.ensures ∙ ap (of_z w8) (to_z-of_z w8 response.format fits) in
    let same : map (λ (code : ℤ). code) codes ≡ codes = map-id codes in
    record {
      text = same_bytes (c.cast_unsigned.result ∷ []) (complement 1 response.format) (be16 (length codes)) (flat_map (complement 2) (map (λ (code : ℤ). code) codes)) (flat_map (complement 2) codes) (ap (λ (b : ℕ). b ∷ []) whole ∙ complement_8 response.format fits) (ap (flat_map (complement 2)) same);
      fault = count_alone (too_many max_signed (length codes)) (map (λ (code : ℤ). code) codes);
      range = λ it. record { whole = fits_8 response.format fits; columns = rw same at it.1.1 };
    }
