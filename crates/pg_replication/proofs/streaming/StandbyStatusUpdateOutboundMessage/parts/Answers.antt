use Rattle.std.proofs.Common.{◌≡◌, ℕ, ℤ, Bool, true, false, List, [], ◌∷◌, ◌++◌, refl, ap, rules}
use Rattle.std.specs.Int.{w64}
use Rattle.std.proofs.lemmas.Int.{to_z-of_z}
use mir.Val.{SFits}
use Rattle.pg_base.specs.Numbers.{be64}
use Rattle.pg_base.specs.Part.{both, byte, number64}
use Rattle.pg_base.specs.Tagged.{IsSame}
use Rattle.pg_format.specs.Format.Parts.{complement}
use Rattle.pg_format.specs.Field.{signed64}
use Rattle.pg_format.specs.Replication.{bit, flag}
use Rattle.pg_format.specs.declared.replication.ReplicationKind.TheVariants as kinds
use Rattle.pg_server.specs.Backend.OutboundMessage.{part_of}
use Rattle.pg_server.specs.Backend.Message.{Replication, law_of}
use Rattle.pg_replication.specs.ReplicationMessage.{shown_status_update}
use Rattle.pg_replication.specs.declared.streaming.StandbyStatusUpdate.{StandbyStatusUpdate}
use Rattle.pg_replication.proofs.streaming.StandbyStatusUpdateOutboundMessage.parts.Goals as goal

one_byte : (set : Bool) → bit set ∷ [] ≡ flag.Writes set
one_byte true = refl
one_byte false = refl

of_parts : (it : StandbyStatusUpdate) (clock : ℤ) → clock ≡ it.clock
    → IsSame (both (byte 114) (both (number64 it.written) (both (number64 it.flushed) (both (number64 it.applied) (both (signed64 clock) (byte (bit it.wants_reply)))))))
    (part_of (law_of (Replication kinds.StandbyStatusUpdate (shown_status_update it))))
of_parts it clock e =
    let front : List ℕ → List ℕ = λ reply. (114 ∷ []) ++ (be64 it.written ++ (be64 it.flushed ++ (be64 it.applied ++ (complement 8 it.clock ++ reply)))) in
    rw e (record { text = ap front (one_byte it.wants_reply); fault = refl; range = λ r. (r.1.0, r.1.1.0, r.1.1.1.0, r.1.1.1.1.0) })

pub returns : goal.returns
returns c =
    let it = c.args.self.now in
    let fits : SFits w64 it.clock = search rules in
    of_parts it _ (to_z-of_z w64 it.clock fits)
