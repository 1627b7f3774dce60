-- What a reader part by part takes for a message, and what the page means by the message: the lemmas of some kinds.
use Rattle.std.proofs.Common.{◌≡◌, ℕ, ◌^◌, ◌<◌, Bool, true, false, pos, List, [], ◌∷◌, ◌++◌, length, Some, refl, sym, ap, ◌∙◌, arith}
use Rattle.std.specs.List.{flat_map}
use Rattle.std.proofs.lemmas.List.{append-nil}
use Rattle.pg_base.specs.Id.{name, statement_prefix, portal_prefix}
use Rattle.pg_base.specs.Numbers.{be16}
use Rattle.pg_base.specs.Reading.{Text}
use Rattle.pg_base.specs.Ended.{ended}
use Rattle.pg_format.specs.Format.{Format, Lawful, Canonical, AreBytes, Means}
use Rattle.pg_format.specs.Format.Nullable.{value}
use Rattle.pg_format.specs.Messages as page
use Rattle.pg_format.proofs.FormatLaws.Parts.{are_bytes_after, canonical_until_nul, canonical_unsigned}
use Rattle.pg_format.proofs.FormatLaws.Lists.{lawful_times, canonical_times, canonical_counted_least}
use Rattle.pg_format.proofs.FormatLaws.Nullable.{lawful_value, canonical_value}
use Rattle.pg_send.specs.Bind.{BindFields, bind_body, IsBindInRange, ReadsBind}
use Rattle.pg_send.specs.Counted.{counted16}
use Rattle.pg_send.specs.Execute.{ExecuteFields, execute_value, ReadsExecute}
use Rattle.pg_send.specs.Page.{IsWritten, MeantByBind}
use Rattle.pg_send.specs.Parse.{ParseFields, parse_value, parse_body, IsParseInRange, ReadsParse}
use Rattle.pg_send.specs.Password.{md5_value, ReadsMd5}
use Rattle.pg_send.specs.SaslInitialResponse.{SaslInitialFields, mechanism, sasl_initial_value, sasl_initial_body, ReadsMechanism, ReadsSaslInitial}
use Rattle.pg_send.specs.Target.{Target, Statement, Portal, target_value, ReadsTarget}
use Rattle.pg_send.proofs.BindLemmas.{read_bind, same_front}
use Rattle.pg_send.proofs.PagePartsLemmas.{text_of_id, counted_read, values_read, values_fit, values_of}
use Rattle.pg_send.proofs.ParseLemmas.{read_parse}
use Rattle.pg_send.proofs.PasswordLemmas.{hex_is, hex_holds_no_0}
use Rattle.pg_send.proofs.SaslInitialResponseLemmas.{read_sasl_initial}

-- ---- a Bind

one_written : {A : Type 0} {g : Format A} → Lawful g → (bytes : List ℕ) (v w : A) → IsWritten g bytes v → IsWritten g bytes w → v ≡ w
one_written lawful bytes v w p q = (lawful.one_value (bytes ++ []) [] [] v w (rw p.is (lawful.written v [] p.fits)) (rw q.is (lawful.written w [] q.fits))).0

pub one_meant_bind : (b : BindFields) (v w : page.Bind) → MeantByBind b v → MeantByBind b w → v ≡ w
one_meant_bind b v w p q =
    let values = one_written (lawful_times lawful_value b.num_params) b.params v.values w.values p.values q.values in
    let portals = p.portal ∙ sym q.portal in
    let statements = p.statement ∙ sym q.statement in
    let formats = p.formats ∙ sym q.formats in
    let results = p.result_formats ∙ sym q.result_formats in
    λ i. record { portal = portals i; statement = statements i; formats = formats i; values = values i; result_formats = results i }

after_read : {A : Type 0} {g : Format A} → Canonical g → (bytes : List ℕ) (v : A) (rest : List ℕ) → AreBytes bytes → g.Reads bytes v rest → AreBytes rest
after_read {g = g} cg bytes v rest h p = are_bytes_after bytes (g.Writes v) rest (cg.same bytes rest v h p) h

pub bind_means : (bytes : List ℕ) (b : BindFields) → AreBytes bytes → ReadsBind bytes b → (v : page.Bind) × MeantByBind b v × Means page.bind bytes v
bind_means bytes b h p =
    let vs = values_read b.num_params p.after_count p.after_params p.values in
    let portal = text_of_id portal_prefix bytes p.portal_name p.after_portal b.portal p.first p.portal in
    let statement = text_of_id statement_prefix p.after_portal p.statement_name p.after_statement b.statement p.second p.statement in
    let formats = counted_read 2 p.after_statement b.formats p.after_formats p.formats in
    let after_portal = after_read canonical_until_nul bytes (name portal_prefix b.portal) p.after_portal h portal in
    let after_statement = after_read canonical_until_nul p.after_portal (name statement_prefix b.statement) p.after_statement after_portal statement in
    let after_formats = after_read (canonical_counted_least (canonical_unsigned 2 tt) 2) p.after_statement b.formats p.after_formats after_statement formats in
    let after_count = after_read (canonical_unsigned 2 tt) p.after_formats b.num_params p.after_count after_formats p.count in
    let same = (canonical_times canonical_value b.num_params).same p.after_count p.after_params vs.0 after_count (vs.1, vs.2) in
    let fits = (canonical_times canonical_value b.num_params).fits p.after_count p.after_params vs.0 after_count (vs.1, vs.2) in (
      record { portal = name portal_prefix b.portal; statement = name statement_prefix b.statement; formats = b.formats; values = vs.0; result_formats = b.result_formats },
      record {
        portal = refl;
        statement = refl;
        formats = refl;
        values = record { is = same_front b.params (flat_map value.Writes vs.0) p.after_params (sym p.params ∙ same); fits = (vs.1, values_fit vs.0 p.after_params [] fits.1) };
        result_formats = refl;
      },
      (
        record {
          mid = p.after_portal;
          first = portal;
          second = record {
            mid = p.after_statement;
            first = statement;
            second = record {
              mid = p.after_formats;
              first = formats;
              second = record {
                mid = p.after_params;
                first = ((b.num_params, vs.0), record { mid = p.after_count; first = p.count; second = (vs.1, vs.2) }, refl);
                second = counted_read 2 p.after_params b.result_formats [] p.result_formats;
              };
            };
          };
        },
        refl,
      ),
    )

pub bind_written : (b : BindFields) (v : page.Bind) → MeantByBind b v → bind_body b ≡ page.bind.Writes v
bind_written b v p =
    let count : b.num_params ≡ length v.values = sym p.values.fits.0 in
    λ i. ended (sym p.portal i) ++ (ended (sym p.statement i) ++ (counted16 (sym p.formats i) ++ ((be16 (count i) ++ p.values.is i) ++ counted16 (sym p.result_formats i))))

pub bind_reads : (b : BindFields) (v : page.Bind) → MeantByBind b v → page.bind.Fits v [] → IsBindInRange b → ReadsBind (bind_body b) b
bind_reads b v p fits r =
    let few : length b.formats < 2 ^ 16 = omega (arith, fits.0.1.1.0.0.0, ap length p.formats) in
    let few_results : length b.result_formats < 2 ^ 16 = omega (arith, fits.0.1.1.1.1.0.0, ap length p.result_formats) in
    read_bind b r few few_results (values_of b.num_params b.params v.values p.values)

-- ---- other kinds

pub target_means : (bytes : List ℕ) (target : Target) → ReadsTarget bytes target → Means page.targeted bytes (target_value target)
target_means bytes (Statement id) p = (record { mid = p.after; first = (83, p.begins, refl); second = text_of_id statement_prefix p.after p.name [] id p.text p.is }, refl)
target_means bytes (Portal id) p = (record { mid = p.after; first = (80, p.begins, refl); second = text_of_id portal_prefix p.after p.name [] id p.text p.is }, refl)

pub execute_means : (bytes : List ℕ) (e : ExecuteFields) → ReadsExecute bytes e → Means page.execute bytes (execute_value e)
execute_means bytes e p = (record { mid = p.after_name; first = text_of_id portal_prefix bytes p.name p.after_name e.portal p.first p.portal; second = p.limit }, refl)

pub parse_means : (bytes : List ℕ) (s : ParseFields) → ReadsParse bytes s → Means page.parse bytes (parse_value s)
parse_means bytes s p = (
  record {
    mid = p.after_name;
    first = text_of_id statement_prefix bytes p.name p.after_name s.statement p.first p.statement;
    second = record { mid = p.after_query; first = p.second; second = counted_read 4 p.after_query s.param_types [] p.types };
  },
  refl,
)

mechanism_is : (text : List ℕ) (plus : Bool) → ReadsMechanism text plus → text ≡ mechanism plus
mechanism_is text true p = p
mechanism_is text false p = p

pub sasl_initial_means : (bytes : List ℕ) (s : SaslInitialFields) → ReadsSaslInitial bytes s → Means page.sasl_initial_response bytes (sasl_initial_value s)
sasl_initial_means bytes s p = (
  record {
    mid = p.after_name;
    first = rw (mechanism_is p.name s.plus p.chosen) at p.first;
    second = ((pos (length s.response), Some s.response), record { mid = s.response; first = p.response; second = (s.response, (refl, sym (append-nil s.response)), refl) }, refl);
  },
  refl,
)

pub md5_means : (bytes digest : List ℕ) → ReadsMd5 bytes digest → Means page.text bytes (md5_value digest)
md5_means bytes digest p = (
  record {
    clean = ((λ e. omega (arith, e)), ((λ e. omega (arith, e)), ((λ e. omega (arith, e)), rw (hex_is p.digits digest p.spelled) at (hex_holds_no_0 p.digits digest p.spelled))));
    parts = p.parts ∙ ap (λ (l : List ℕ). 109 ∷ 100 ∷ 53 ∷ (l ++ 0 ∷ [])) (hex_is p.digits digest p.spelled);
  },
  refl,
)

pub text_reads : (text v : List ℕ) → v ≡ text → page.text.Fits v [] → Text (ended text) text []
text_reads text v p fits = record { clean = rw p at fits.0; parts = refl }

pub parse_reads : (s : ParseFields) → page.parse.Fits (parse_value s) [] → IsParseInRange s → ReadsParse (parse_body s) s
parse_reads s fits r = read_parse s r (fits.0.1.1.0.0) fits.0.1.0

pub sasl_initial_reads : (s : SaslInitialFields) → page.sasl_initial_response.Fits (sasl_initial_value s) [] → ReadsSaslInitial (sasl_initial_body s) s
sasl_initial_reads s fits = read_sasl_initial s (omega (arith, fits.0.1.0.0))
