use Rattle.std.proofs.Common.{sym, rules}
use Rattle.std.specs.Int.{w8}
use Rattle.std.proofs.lemmas.Int.{to_z-of_z}
use mir.Val.{to_z, of_z}
use Rattle.pg_base.specs.declared.error.ProtocolFault.TheVariants.{UnknownMessageType}
use Rattle.pg_server.specs.Backend.Copy.{direction_tag}
use Rattle.pg_server.specs.Backend.Message as messages
use Rattle.pg_c.specs.Server.{PutsServerMessage, PutsByLetter}
use Rattle.pg_c.specs.Server.Letters.{ways}
use Rattle.pg_c.proofs.ServerLettersLemmas.{direction_found, put_by_letter, refused_by_letter}
use Rattle.pg_c.proofs.server.results.pgmsg_put_copy_response.Goals as goal

pub returns-in-Some : goal.returns-in-Some
returns-in-Some c =
    let said : PutsServerMessage (messages.CopyResponse c.in-Some.direction (to_z w8 (of_z w8 c.args.format)) c.args.codes.now) c.args.out.now c.put.new.out c.put.result = c.put.ensures in
    let same : PutsServerMessage (messages.CopyResponse c.in-Some.direction c.args.format c.args.codes.now) c.args.out.now c.put.new.out c.put.result = rw (to_z-of_z w8 c.args.format c.ranges.format) at said in
    let puts : PutsByLetter direction_tag (λ direction. messages.CopyResponse direction c.args.format c.args.codes.now) (UnknownMessageType c.args.tag) c.args.tag c.args.out.now c.put.new.out c.put.result =
    put_by_letter direction_tag ways direction_found _ _ _ _ _ _ c.in-Some.direction (sym c.in-Some.ensures) same in
    search rules

pub returns-in-None : goal.returns-in-None
returns-in-None c = refused_by_letter direction_tag ways direction_found _ _ _ _ _ _ (sym c.in-None.ensures) (search rules)
