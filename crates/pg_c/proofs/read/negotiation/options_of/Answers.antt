use Rattle.std.proofs.Common.{◌<◌, ◌≤◌, ℕ, List, length, drop, refl, arith, inl, inr, ◌≡◌, pos, sym, ap, ◌∙◌, rules}
use Rattle.std.proofs.lemmas.Result.{err_from_is_err_and}
use Rattle.pg_base.specs.Error.{IsShort}
use Rattle.pg_base.specs.declared.error.ProtocolFault.{ProtocolFault}
use Rattle.pg_format.specs.Format.{Means, IsFaultOf}
use Rattle.pg_format.specs.Format.Lists.{times}
use Rattle.pg_format.specs.Format.Parts.{be_u16, be_u32, until_nul}
use Rattle.pg_format.specs.Format.Places.{IsReadAt, BreaksAt}
use Rattle.pg_format.specs.Messages.{negotiate_protocol_version, version}
use Rattle.pg_format.proofs.FormatLaws.Places.{items_then_fault, lacks_at}
use Rattle.pg_c.specs.Place.{part}
use Rattle.pg_c.proofs.ClientValuesLemmas.{name_finds}
use Rattle.pg_c.proofs.ReadLemmas.{gives_none, gives_more, gives_full, gives_front}
use Rattle.pg_c.proofs.read.negotiation.options_of.Goals as goal
use Rattle.pg_c.proofs.read.negotiation.options_of.Goals.{then-index-options, else-index-options}

-- The options of a version are read after their count.

-- both halves of the version
abbrev Versions : List ℕ → ℕ → ℕ → Type 0
Versions body major minor = version.Reads body (major, minor) (drop 4 body)

version_at : (body : List ℕ) (major minor : ℕ) → be_u16.Reads body major (drop 2 body) → be_u16.Reads (drop 2 body) minor (drop 4 body) → Versions body major minor
version_at body major minor p q = record { mid = drop 2 body; first = p; second = q }

negotiation_at : (body : List ℕ) (major minor n end : ℕ) (options : List (List ℕ)) → Versions body major minor → be_u32.Reads (drop 4 body) n (drop 8 body)
    → IsReadAt (times n until_nul) body 8 options end → Means negotiate_protocol_version body (record { major = major; minor = minor; options = options })
negotiation_at body major minor n end options p counted read =
    (drop end body, record { mid = drop 4 body; first = p; second = ((n, options), record { mid = drop 8 body; first = counted; second = read.reads }, refl) }, refl)

-- the count isn't there
count_breaks : (body : List ℕ) (major minor : ℕ) (fault : ProtocolFault) → Versions body major minor → 4 ≤ length body → IsShort body 4 4 fault → IsFaultOf negotiate_protocol_version body fault
count_breaks body major minor fault p within short = inr (record { value = (major, minor); mid = drop 4 body; reads = p; breaks = inl (lacks_at body 4 4 fault within short) })

-- an option has no end
option_breaks : (body : List ℕ) (major minor n k at : ℕ) (options : List (List ℕ)) (fault : ProtocolFault) → Versions body major minor → be_u32.Reads (drop 4 body) n (drop 8 body)
    → IsReadAt (times k until_nul) body 8 options at → k < n → BreaksAt until_nul body at fault → IsFaultOf negotiate_protocol_version body fault
option_breaks body major minor n k at options fault p counted read fewer breaks =
    inr (record {
      value = (major, minor);
      mid = drop 4 body;
      reads = p;
      breaks = inr (record {
        value = n;
        mid = drop 8 body;
        reads = counted;
        breaks = items_then_fault until_nul options n (length body) (drop 8 body) (drop at body) fault read.reads.1 breaks (omega (arith, read.reads.0, fewer));
      });
    })

pub returns-in_err-count-clause-fault : goal.returns-in_err-count-clause-fault
returns-in_err-count-clause-fault c =
    let p = err_from_is_err_and c.from_residual-in_err-count.result c.from_residual-in_err-count.ensures.1 in
    let body = c.args.body.now in
    let versions = version_at body c.in_ok-major.major c.in_ok-minor.minor c.in_ok-major.ensures.found c.in_ok-minor.ensures.found in
    let within : 4 ≤ length body = omega (arith, c.in_ok-bytes_at.ensures.found.0) in
    rw (p.1, p.2) (inr (c.in_ok-check_body.ensures.ok, count_breaks body c.in_ok-major.major c.in_ok-minor.minor c.in_err-count.field-0.0 versions within c.in_err-count.ensures.short))

pub loop-index-init : goal.loop-index-init
loop-index-init c = gives_none until_nul (part c.args.body.now) c.args.body.now 8 c.args.options.now (search rules)

pub text_at-requires : goal.text_at-requires
text_at-requires c = c.loop-index.invariant.read.within

pub loop-index-preserved : goal.loop-index-preserved
loop-index-preserved c =
    let body = c.args.body.now in
    let loop = c.loop-index in
    let option = c.in_ok-option.option.now in
    let end = c.in_ok-option.end in
    let read : IsReadAt until_nul body loop.at option end = record { within = c.in_ok-option.ensures.after.1; reads = c.in_ok-option.ensures.found } in
    let place = name_finds body loop.at end option loop.invariant.read.within read in
    elim c.if-index-options.branch [
      | then-index-options w ↦ rw w.options-is
          (gives_more until_nul (part body) body 8 loop.at end loop.index c.args.options.now loop.options _ place.value loop.invariant place.is place.read w.if-index-options.true)
      | else-index-options w ↦ rw w.options-is
          (gives_full until_nul (part body) body 8 loop.at end loop.index c.args.options.now loop.options option loop.invariant read (omega (arith, w.if-index-options.false)))
    ]

pub returns-in_err-option-clause-fault : goal.returns-in_err-option-clause-fault
returns-in_err-option-clause-fault c =
    let p = err_from_is_err_and c.from_residual-in_err-option.result c.from_residual-in_err-option.ensures.1 in
    let body = c.args.body.now in
    let loop = c.loop-index in
    let versions = version_at body c.in_ok-major.major c.in_ok-minor.minor c.in_ok-major.ensures.found c.in_ok-minor.ensures.found in
    rw (p.1, p.2) (inr (
      c.in_ok-check_body.ensures.ok,
      option_breaks body c.in_ok-major.major c.in_ok-minor.minor c.in_ok-count.field-0 loop.index loop.at loop.invariant.items c.in_err-option.field-0.0 versions c.in_ok-count.ensures.found loop.invariant.read c.loop-index-test.true c.in_err-option.ensures.missing,
    ))

pub returns-in_err-option-clause-front : goal.returns-in_err-option-clause-front
returns-in_err-option-clause-front c =
    let loop = c.loop-index in
    rw (err_from_is_err_and c.from_residual-in_err-option.result c.from_residual-in_err-option.ensures.1).1 (gives_front until_nul (part c.args.body.now) c.args.body.now 8 loop.at loop.index c.args.options.now loop.options loop.invariant)

pub returns-clause-value : goal.returns-clause-value
returns-clause-value c =
    let body = c.args.body.now in
    let loop = c.loop-index in
    let all : loop.index ≡ c.in_ok-count.field-0 = omega (arith, c.loop-index-test.false, loop.auto.index-end) in
    let versions = version_at body c.in_ok-major.major c.in_ok-minor.minor c.in_ok-major.ensures.found c.in_ok-minor.ensures.found in
    record {
      value = record { major = c.in_ok-major.major; minor = c.in_ok-minor.minor; options = loop.invariant.items };
      means = negotiation_at body c.in_ok-major.major c.in_ok-minor.minor c.in_ok-count.field-0 loop.at loop.invariant.items versions c.in_ok-count.ensures.found (rw all at loop.invariant.read);
      major = search rules;
      minor = search rules;
      count = ap pos (sym (loop.invariant.read.reads.0 ∙ all));
      given = loop.invariant.given;
    }
