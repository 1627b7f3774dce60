-- What is put by a letter.
use Rattle.std.proofs.Common.{◌≡◌, ℕ, ℤ, Bool, true, false, cond, eqb, List, [], ◌∷◌, Option, Some, None, refl, sym, ap, ◌∙◌}
use Rattle.std.proofs.lemmas.Bool.{eqb-true}
use Rattle.pg_base.specs.declared.error.ProtocolFault.{ProtocolFault}
use Rattle.pg_server.specs.Backend.Copy.{direction_tag}
use Rattle.pg_server.specs.Backend.Message.{Message}
use Rattle.pg_server.specs.Backend.Notice.{notice_tag}
use Rattle.pg_server.specs.declared.backend.copy.CopyDirection.{CopyDirection}
use Rattle.pg_server.specs.declared.backend.copy.CopyDirection.TheVariants as directions
use Rattle.pg_server.specs.declared.backend.notice.NoticeKind.{NoticeKind}
use Rattle.pg_server.specs.declared.backend.notice.NoticeKind.TheVariants as notices
use Rattle.pg_server.specs.declared.backend.ready_for_query.OutboundReadyForQuery.{OutboundReadyForQuery}
use Rattle.pg_server.specs.declared.backend.ready_for_query.OutboundReadyForQuery.TheVariants as statuses
use Rattle.pg_c.specs.Put.{IsRefused}
use Rattle.pg_c.specs.Server.{PutsServerMessage, PutsByLetter}
use Rattle.pg_c.specs.Server.Letters.{kind_of, notice_kind_of, direction_of, ready_letter, ready_of}

same : {K : Type 0} (one other : K) → Some one ≡ Some other → one ≡ other
same one other e = cc

-- a kind that was found has the letter
has_by : {K : Type 0} (b : Bool) (letter_of : K → ℕ) (first : K) (rest : Option K) (letter : ℕ) (kind : K)
    → eqb letter (letter_of first) ≡ b → (rest ≡ Some kind → letter_of kind ≡ letter) → cond b (Some first) rest ≡ Some kind → letter_of kind ≡ letter
has_by true letter_of first rest letter kind test later e = ap letter_of (sym (same first kind e)) ∙ sym (eqb-true letter (letter_of first) test)
has_by false letter_of first rest letter kind test later e = later e

has_letter : {K : Type 0} (letter_of : K → ℕ) (kinds : List K) (letter : ℕ) (kind : K) → kind_of letter_of kinds letter ≡ Some kind → letter_of kind ≡ letter
has_letter letter_of [] letter kind e = absurd (let clash : None ≡ Some kind = e in cc)
has_letter letter_of (first ∷ kinds) letter kind e =
    has_by (eqb letter (letter_of first)) letter_of first (kind_of letter_of kinds letter) letter kind refl (has_letter letter_of kinds letter kind) e

module _ {K : Type 0} (letter_of : K → ℕ) (kinds : List K) (found : (kind : K) → kind_of letter_of kinds (letter_of kind) ≡ Some kind) (message : K → Message) (fault : ProtocolFault) (letter : ℕ) (old new : List ℕ) (result : ℤ) where
  -- a message of the kind that was found is put
  pub put_by_letter : (kind : K) → kind_of letter_of kinds letter ≡ Some kind → PutsServerMessage (message kind) old new result → PutsByLetter letter_of message fault letter old new result
  put_by_letter kind is puts = record {
    known = λ other e. let there = sym is ∙ sym (ap (kind_of letter_of kinds) e) ∙ found other in rw (same kind other there) at puts;
    unknown = λ none. absurd (none kind (has_letter letter_of kinds letter kind is));
  }

  -- and where none was found, it is refused
  pub refused_by_letter : kind_of letter_of kinds letter ≡ None → IsRefused fault old new result → PutsByLetter letter_of message fault letter old new result
  refused_by_letter is refused = record {
    known = λ kind e. absurd (let clash : Some kind ≡ None = sym (found kind) ∙ ap (kind_of letter_of kinds) e ∙ is in cc);
    unknown = λ none. refused;
  }

pub notice_found : (kind : NoticeKind) → notice_kind_of (notice_tag kind) ≡ Some kind
notice_found notices.Error = refl
notice_found notices.Notice = refl

pub direction_found : (direction : CopyDirection) → direction_of (direction_tag direction) ≡ Some direction
direction_found directions.In = refl
direction_found directions.Out = refl
direction_found directions.Both = refl

pub ready_found : (ready : OutboundReadyForQuery) → ready_of (ready_letter ready) ≡ Some ready
ready_found statuses.Idle = refl
ready_found statuses.Transaction = refl
ready_found statuses.Error = refl
