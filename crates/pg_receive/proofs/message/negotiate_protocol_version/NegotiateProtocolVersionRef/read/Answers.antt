use Rattle.std.proofs.Common.{◌≤◌, length, arith}
use Rattle.std.proofs.lemmas.Result.{err_from_is_err_and}
use Rattle.pg_receive.specs.OptionNames.{option_names}
use Rattle.pg_receive.proofs.NegotiateProtocolVersionLemmas.{version_at, negotiation_at, count_breaks, options_break}
use Rattle.pg_receive.proofs.message.negotiate_protocol_version.NegotiateProtocolVersionRef.read.Goals as goal

pub returns-in_err-count : goal.returns-in_err-count
returns-in_err-count c =
    let p = err_from_is_err_and c.from_residual-in_err-count.result c.from_residual-in_err-count.ensures.1 in
    let body = c.args.body.now in
    let versions = version_at body c.in_ok-major.major c.in_ok-minor.minor c.in_ok-major.ensures.found c.in_ok-minor.ensures.found in
    let within : 4 ≤ length body = omega (arith, c.in_ok-bytes_at.ensures.found.0) in
    rw (p.1, p.2) (count_breaks body c.in_ok-major.major c.in_ok-minor.minor c.in_err-count.field-0.0 versions within c.in_err-count.ensures.short)

pub returns-in_err-options : goal.returns-in_err-options
returns-in_err-options c =
    let p = err_from_is_err_and c.from_residual-in_err-options.result c.from_residual-in_err-options.ensures.1 in
    let body = c.args.body.now in
    let versions = version_at body c.in_ok-major.major c.in_ok-minor.minor c.in_ok-major.ensures.found c.in_ok-minor.ensures.found in
    rw (p.1, p.2) (options_break body c.in_ok-major.major c.in_ok-minor.minor c.in_ok-count.field-0 c.in_err-options.field-0.0 versions c.in_ok-count.ensures.found c.in_err-options.ensures.broken)

pub returns : goal.returns
returns c =
    let body = c.args.body.now in
    let versions = version_at body c.in_ok-major.major c.in_ok-minor.minor c.in_ok-major.ensures.found c.in_ok-minor.ensures.found in
    let options = c.in_ok-options in
    negotiation_at body c.in_ok-major.major c.in_ok-minor.minor c.in_ok-count.field-0 options._end (option_names options.options) versions c.in_ok-count.ensures.found options.ensures.names
