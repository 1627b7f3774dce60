-- A Bind makes the round trip.
use Rattle.std.proofs.Common.{◌≡◌, ℕ, ◌^◌, ◌<◌, All, List, [], ◌++◌, length, refl, sym, ap, ◌∙◌, arith, length-append}
use Rattle.std.proofs.lemmas.List.{append-nil}
use Rattle.pg_base.specs.Id.{name, named, statement_prefix, portal_prefix}
use Rattle.pg_base.specs.Numbers.{be16}
use Rattle.pg_base.specs.Reading.{Values}
use Rattle.pg_base.proofs.CuttingLemmas.{parts_at}
use Rattle.pg_base.proofs.ReadingLemmas.{one_number, one_text}
use Rattle.pg_base.proofs.RoundTripLemmas.{id_of_name, text_of_name, one_id, statement_prefix_holds_no_0, portal_prefix_holds_no_0, number_of_be16, one_counted, one_values, values_before}
use Rattle.pg_send.specs.Counted.{counted16}
use Rattle.pg_send.specs.Bind.{BindFields, bind_body, IsBindInRange, ReadsBind}
use Rattle.pg_send.proofs.CountedLemmas.{read_counted16}

codes_fit : (codes : List ℕ) → All (λ code. code < 2) codes → All (λ n. n < 2 ^ 16) codes
codes_fit codes h k d lt = omega (arith, h k d lt)

pub read_bind : (b : BindFields) → IsBindInRange b → length b.formats < 2 ^ 16 → length b.result_formats < 2 ^ 16 → Values b.num_params b.params [] → ReadsBind (bind_body b) b
read_bind b h few few_results values =
    let results : List ℕ = counted16 b.result_formats in
    let params : List ℕ = b.params ++ results in
    let count : List ℕ = be16 b.num_params ++ params in
    let formats : List ℕ = counted16 b.formats ++ ((be16 b.num_params ++ b.params) ++ results) in
    let statement : List ℕ = named statement_prefix b.statement ++ formats in
    record {
      portal_name = name portal_prefix b.portal;
      statement_name = name statement_prefix b.statement;
      after_portal = statement;
      after_statement = formats;
      after_formats = count;
      after_count = params;
      after_params = results;
      first = text_of_name portal_prefix b.portal statement portal_prefix_holds_no_0 h.portal;
      portal = id_of_name portal_prefix b.portal h.portal;
      second = text_of_name statement_prefix b.statement formats statement_prefix_holds_no_0 h.statement;
      statement = id_of_name statement_prefix b.statement h.statement;
      formats = read_counted16 b.formats count few (codes_fit b.formats h.formats);
      codes = h.formats;
      count = number_of_be16 b.num_params params h.num_params;
      params = refl;
      values = values_before b.num_params b.params [] results values;
      result_formats = rw append-nil at (read_counted16 b.result_formats [] few_results (codes_fit b.result_formats h.result_formats));
      result_codes = h.result_formats;
    }

pub same_front : (a b rest : List ℕ) → a ++ rest ≡ b ++ rest → a ≡ b
same_front a b rest e = (parts_at a b rest rest (omega (arith, ap length e, length-append a rest, length-append b rest)) e).0

pub one_bind : (body : List ℕ) (a b : BindFields) → ReadsBind body a → ReadsBind body b → a ≡ b
one_bind body a b p q =
    let first = one_text body p.portal_name q.portal_name p.after_portal q.after_portal p.first q.first in
    let portals : a.portal ≡ b.portal = one_id portal_prefix q.portal_name a.portal b.portal (rw first.0 at p.portal) q.portal in
    let second = one_text q.after_portal p.statement_name q.statement_name p.after_statement q.after_statement (rw first.1 at p.second) q.second in
    let statements : a.statement ≡ b.statement = one_id statement_prefix q.statement_name a.statement b.statement (rw second.0 at p.statement) q.statement in
    let formats = one_counted 2 q.after_statement a.formats b.formats p.after_formats q.after_formats (rw second.1 at p.formats) q.formats in
    let count = one_number 2 q.after_formats a.num_params b.num_params p.after_count q.after_count (rw formats.1 at p.count) q.count in
    let after : p.after_params ≡ q.after_params = one_values b.num_params q.after_count p.after_params q.after_params (rw (count.0, count.1) at p.values) q.values in
    let params : a.params ≡ b.params = same_front a.params b.params q.after_params (rw after at (sym p.params ∙ count.1 ∙ q.params)) in
    let results = one_counted 2 q.after_params a.result_formats b.result_formats [] [] (rw after at p.result_formats) q.result_formats in
    λ i. record { portal = portals i; statement = statements i; formats = formats.0 i; num_params = count.0 i; params = params i; result_formats = results.0 i }
