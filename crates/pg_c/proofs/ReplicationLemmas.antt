-- Where the parts of a message of replication stand.
use Rattle.std.proofs.Common.{◌≡◌, ℕ, ◌+◌, List, [], ◌++◌, length, drop, Result, Ok, Err, Some, MatchResult, inl, inr, refl, sym, ap, ◌∙◌, arith, append_assoc, append-nil, length-append}
use Rattle.pg_base.specs.declared.error.ProtocolFault.{ProtocolFault}
use Rattle.pg_format.specs.Format.{Format, Means}
use Rattle.pg_format.specs.Format.Parts.{be_u8}
use Rattle.pg_format.specs.Format.Places.{ReadsAfter}
use Rattle.pg_format.specs.Replication as page
use Rattle.pg_format.specs.Replication.{replication_letter}
use Rattle.pg_format.specs.declared.replication.ReplicationKind.{ReplicationKind}
use Rattle.pg_format.specs.declared.replication.ReplicationKind.TheVariants as kinds
use Rattle.pg_replication.specs.Lettered.{Reads}
use Rattle.pg_replication.specs.ReplicationMessage.{Answer, ReadsKind, ReadsReplication, shown_xlog_data, shown_new_archive}
use Rattle.pg_replication.specs.declared.replication_message.ReplicationMessage.{ReplicationMessage}
use Rattle.pg_replication.specs.declared.replication_message.ReplicationMessage.TheVariants as messages
use Rattle.pg_c.specs.Place.{bytes_in}
use Rattle.pg_c.proofs.PlaceLemmas.{bytes_are, two_texts}

-- these bytes are all that stands from an offset on
record Behind (body : List ℕ) (at : ℕ) (rest : List ℕ) : Type 0 where
  front : List ℕ
  wide : length front ≡ at
  parts : body ≡ front ++ rest

further : (body mid spelled rest : List ℕ) (at width : ℕ) → Behind body at mid → length spelled ≡ width → mid ≡ spelled ++ rest → Behind body (at + width) rest
further body mid spelled rest at width p wide parts = record {
  front = p.front ++ spelled;
  wide = omega (arith, length-append p.front spelled, p.wide, wide);
  parts = p.parts ∙ ap (λ (l : List ℕ). p.front ++ l) parts ∙ sym (append_assoc p.front spelled rest);
}

after_letter : (body : List ℕ) (letter : ℕ) → be_u8.Reads body letter (drop 1 body) → Behind body 1 (drop 1 body)
after_letter body letter p = record { front = p.spelled; wide = p.wide; parts = p.parts }

rest_at : (body rest : List ℕ) (at : ℕ) → Behind body at rest → bytes_in body at (length rest) ≡ Some rest
rest_at body rest at p =
    let whole : body ≡ p.front ++ (rest ++ []) = rw (append-nil rest) p.parts in
    bytes_are body p.front rest [] at whole p.wide

-- what a message has of bytes stands at its places
abbrev Placed : List ℕ → ReplicationMessage → Type 0
Placed body (messages.XLogData x) = bytes_in body 25 (length x.content.now) ≡ Some x.content.now
Placed body (messages.NewArchive n) =
    (bytes_in body 1 (length n.name.now) ≡ Some n.name.now) × (bytes_in body (1 + length n.name.now + 1) (length n.location.now) ≡ Some n.location.now)
Placed body other = Unit {0}

by_answer : {A V : Type 0} (case : A → ReplicationMessage) (line : Format V) (shown : A → V) (body : List ℕ) (message : ReplicationMessage) (answer : Result A ProtocolFault) (result : Answer) → result ≡ Ok message
    → ReadsAfter line shown body 1 answer → MatchResult answer (λ value. result ≡ Ok (case value)) (λ fault. result ≡ Err fault) → (value : A) × (message ≡ case value) × Means line (drop 1 body) (shown value)
by_answer case line shown body message (Ok value) result ok reads is = (value, cc (ok, is), reads)
by_answer case line shown body message (Err fault) result ok reads is = absurd (cc (ok, is))

-- the value of the case that was read
value_of : {A V : Type 0} (case : A → ReplicationMessage) (line : Format V) (shown : A → V) (body : List ℕ) (message : ReplicationMessage) → Reads case line shown body (Ok message)
    → (value : A) × (message ≡ case value) × Means line (drop 1 body) (shown value)
value_of case line shown body message p = by_answer case line shown body message p.answer (Ok message) refl p.reads p.is

log_at : (body : List ℕ) (letter : ℕ) (x : page.XLogData) → be_u8.Reads body letter (drop 1 body) → Means page.xlog_data (drop 1 body) x → bytes_in body 25 (length x.content) ≡ Some x.content
log_at body letter x lettered means =
    let start = means.0 in
    let end = start.second in
    let clock = end.second in
    let one = after_letter body letter lettered in
    let two = further body (drop 1 body) start.first.spelled start.mid 1 8 one start.first.wide start.first.parts in
    let three = further body start.mid end.first.spelled end.mid 9 8 two end.first.wide end.first.parts in
    let four = further body end.mid clock.first.spelled clock.mid 17 8 three clock.first.wide clock.first.parts in
    rest_at body x.content 25 (rw clock.second.0 four)

archive_at : (body : List ℕ) (letter : ℕ) (n : page.NewArchive) → be_u8.Reads body letter (drop 1 body) → Means page.new_archive (drop 1 body) n
    → (bytes_in body 1 (length n.name) ≡ Some n.name) × (bytes_in body (1 + length n.name + 1) (length n.location) ≡ Some n.location)
archive_at body letter n lettered means =
    two_texts body lettered.spelled (drop 1 body) n.name means.0.mid n.location [] 1 lettered.parts lettered.wide means.0.first means.0.second

placed_by : (kind : ReplicationKind) (body : List ℕ) (message : ReplicationMessage) → be_u8.Reads body (replication_letter kind) (drop 1 body) → ReadsKind kind body (Ok message) → Placed body message
placed_by kinds.XLogData body message lettered p = let v = value_of messages.XLogData page.xlog_data shown_xlog_data body message p in rw v.1 (log_at body _ _ lettered v.2)
placed_by kinds.NewArchive body message lettered p = let v = value_of messages.NewArchive page.new_archive shown_new_archive body message p in rw v.1 (archive_at body _ _ lettered v.2)
placed_by kinds.BackupData body message lettered p = let v = value_of messages.BackupData _ _ body message p in rw v.1 tt
placed_by kinds.PrimaryKeepalive body message lettered p = let v = value_of messages.PrimaryKeepalive _ _ body message p in rw v.1 tt
placed_by kinds.StandbyStatusUpdate body message lettered p = let v = value_of messages.StandbyStatusUpdate _ _ body message p in rw v.1 tt
placed_by kinds.HotStandbyFeedback body message lettered p = let v = value_of messages.HotStandbyFeedback _ _ body message p in rw v.1 tt
placed_by kinds.Manifest body message lettered p = let v = value_of messages.Manifest _ _ body message p in rw v.1 tt
placed_by kinds.Progress body message lettered p = let v = value_of messages.Progress _ _ body message p in rw v.1 tt

pub placed : (body : List ℕ) (message : ReplicationMessage) → ReadsReplication body (Ok message) → Placed body message
placed body message (inl known) = placed_by known.kind body message known.lettered known.reads
placed body message (inr (inl unknown)) = absurd (cc unknown.is)
placed body message (inr (inr short)) = absurd (cc short.is)
