-- A message that is written is read back.
use Rattle.std.proofs.Common.{◌≡◌, ℕ, List, [], ◌∷◌, Result, Ok, Err, None, refl, inl, inr, rules}
use Rattle.std.specs.Prelude.{MatchResult}
use Rattle.pg_base.specs.declared.format.FrontendMessageFormat.{FrontendMessageFormat}
use Rattle.pg_base.specs.Format.{frontend_tag}
use Rattle.pg_format.specs.Format.{Format, Lawful, AreBytes, Means}
use Rattle.pg_format.proofs.FormatLaws.FromClient as client
use Rattle.pg_send.specs.Message as message
use Rattle.pg_send.specs.Message.{Message, law_of, line, Meant, tag, body, fault, IsInRange, CanRoundTrip}
use Rattle.pg_send.proofs.MessageLemmas.{reads_itself, means}
use Rattle.pg_server.specs.declared.frontend.error.FrontendFault.{FrontendFault}
use Rattle.pg_server.specs.declared.frontend.frontend_message_ref.FrontendMessageRef.{FrontendMessageRef}
use Rattle.pg_server.specs.Frontend.FrontendMessageRef.{Answer, Reads, ReadsKind, ReadsTagged}
use Rattle.pg_server.specs.Frontend.Message.{ReadsBody}
use Rattle.pg_send.specs.Run as sent
use Rattle.pg_send.specs.Run.{IsMeantByTag, IsMeantIfItCan, AreFrames, AreReadByTag}
use Rattle.pg_message.specs.Frontend.{IsRead, IsReadBack, IsReadByTag, IsReadIfItCan}

-- kinds with one tag are one kind
one_tag : (a b : FrontendMessageFormat) → frontend_tag a ≡ frontend_tag b → a ≡ b
one_tag a b = search rules

module _ {A V : Type 0} {case : A → FrontendMessageRef} {g : Format V} {shown : A → V} (lawful : Lawful g) (Is : V → Type 0) (bytes : List ℕ) (result : Answer) where
  -- what is read of a body that is written of a value
  by_answer : (v : V) → Is v → Means g bytes v → (answer : Result A FrontendFault) → ReadsBody g shown bytes answer → MatchResult answer (λ value. result ≡ Ok (case value)) (λ fault. result ≡ Err fault) → IsRead case shown Is result
  by_answer v is means (Ok value) reads answers =
      let same : v ≡ shown value = (lawful.one_value bytes [] [] v (shown value) means reads).0 in
      record { value = value; is_case = answers; is = rw same at is }
  by_answer v is means (Err fault) reads answers = absurd (lawful.never_both _ bytes [] v reads.0 means reads.2)

  is_read : (v : V) × Is v × Means g bytes v → Reads case g shown bytes result → IsRead case shown Is result
  is_read w p = by_answer w.0 w.1 w.2 p.answer p.reads p.is

-- as its kind
by_kind : (m : Message) (result : Answer) → (v : (line m).Value) × Meant m v × Means (line m).format (body m) v → ReadsKind (law_of m).format (body m) result → IsReadBack m result
by_kind (message.Bind b) result w p = is_read client.lawful_bind (Meant (message.Bind b)) (body (message.Bind b)) result w p
by_kind (message.CleartextPassword text) result w p = p
by_kind (message.Close t) result w p = is_read client.lawful_targeted (Meant (message.Close t)) (body (message.Close t)) result w p
by_kind (message.CopyData bytes) result w p = p
by_kind message.CopyDone result w p = (is_read client.lawful_empty (Meant message.CopyDone) (body message.CopyDone) result w p).is_case
by_kind (message.CopyFail text) result w p = is_read client.lawful_text (Meant (message.CopyFail text)) (body (message.CopyFail text)) result w p
by_kind (message.Describe t) result w p = is_read client.lawful_targeted (Meant (message.Describe t)) (body (message.Describe t)) result w p
by_kind (message.Execute e) result w p = is_read client.lawful_execute (Meant (message.Execute e)) (body (message.Execute e)) result w p
by_kind message.Flush result w p = (is_read client.lawful_empty (Meant message.Flush) (body message.Flush) result w p).is_case
by_kind (message.FunctionCall f) result w p = is_read client.lawful_function_call (Meant (message.FunctionCall f)) (body (message.FunctionCall f)) result w p
by_kind (message.Md5Password digest) result w p = p
by_kind (message.Parse s) result w p = is_read client.lawful_parse (Meant (message.Parse s)) (body (message.Parse s)) result w p
by_kind (message.Query text) result w p = is_read client.lawful_text (Meant (message.Query text)) (body (message.Query text)) result w p
by_kind (message.RawBind b) result w p = is_read client.lawful_bind (Meant (message.RawBind b)) (body (message.RawBind b)) result w p
by_kind (message.RawClose t) result w p = is_read client.lawful_targeted (Meant (message.RawClose t)) (body (message.RawClose t)) result w p
by_kind (message.RawDescribe t) result w p = is_read client.lawful_targeted (Meant (message.RawDescribe t)) (body (message.RawDescribe t)) result w p
by_kind (message.RawExecute e) result w p = is_read client.lawful_execute (Meant (message.RawExecute e)) (body (message.RawExecute e)) result w p
by_kind (message.RawParse s) result w p = is_read client.lawful_parse (Meant (message.RawParse s)) (body (message.RawParse s)) result w p
by_kind (message.SaslInitial s) result w p = p
by_kind (message.SaslInitialResponse s) result w p = p
by_kind (message.SaslResponse bytes) result w p = p
by_kind message.Sync result w p = (is_read client.lawful_empty (Meant message.Sync) (body message.Sync) result w p).is_case
by_kind message.Terminate result w p = (is_read client.lawful_empty (Meant message.Terminate) (body message.Terminate) result w p).is_case

by_tag : (m : Message) (result : Answer) → (v : (line m).Value) × Meant m v × Means (line m).format (body m) v → ReadsTagged (tag m) (body m) result → IsReadBack m result
by_tag m result w (inl known) =
    let kind : known.format ≡ (law_of m).format = one_tag known.format (law_of m).format known.tagged in
    by_kind m result w (rw kind at known.reads)
by_tag m result w (inr unknown) = absurd (unknown.none (law_of m).format refl)

-- what a reader that is given the kind gets back, one that has the tag alone gets back too
pub read_by_tag : (m : Message) → (law_of m).Reads (body m) → AreBytes (body m) → IsReadByTag m (tag m, body m)
read_by_tag m reads h result p = by_tag m result (means m (body m) h reads) p

pub read_back : (m : Message) → fault m ≡ None → IsInRange m → CanRoundTrip m → AreBytes (body m) → IsReadByTag m (tag m, body m)
read_back m accepted in_range can h = read_by_tag m (reads_itself m accepted in_range can) h

-- by which frame the page means a message, by that it is read
pub meant_is_read : (m : Message) (frame : ℕ × List ℕ) → IsMeantByTag m frame → IsReadByTag m frame
meant_is_read m frame meant result p =
    let means : Means (line m).format (body m) meant.value = rw meant.is_body at meant.means in
    by_tag m result (meant.value, meant.meant, means) (rw (meant.is_tag, meant.is_body) at p)

-- frames of which each is as one relation has it are as a weaker one has it
frames_weaker : (P Q : Message → ℕ × List ℕ → Type 0) → ((m : Message) (frame : ℕ × List ℕ) → P m frame → Q m frame) → (ms : List Message) (answers : List sent.Answer) (frames : List (ℕ × List ℕ)) → AreFrames P ms answers frames → AreFrames Q ms answers frames
frames_weaker P Q weaker [] answers frames h = h
frames_weaker P Q weaker (m ∷ ms) [] frames h = h
frames_weaker P Q weaker (m ∷ ms) (Ok u ∷ answers) [] h = absurd h
frames_weaker P Q weaker (m ∷ ms) (Ok u ∷ answers) (frame ∷ frames) h = (weaker m frame h.0, frames_weaker P Q weaker ms answers frames h.1)
frames_weaker P Q weaker (m ∷ ms) (Err _ ∷ answers) frames h = frames_weaker P Q weaker ms answers frames h

pub run_weaker : (P Q : Message → ℕ × List ℕ → Type 0) → ((m : Message) (frame : ℕ × List ℕ) → P m frame → Q m frame) → (ms : List Message) (answers : List sent.Answer) (bytes : List ℕ) → AreReadByTag P ms answers bytes → AreReadByTag Q ms answers bytes
run_weaker P Q weaker ms answers bytes run = record { frames = run.frames; cut = run.cut; read = frames_weaker P Q weaker ms answers run.frames run.read }

pub run_is_read : (ms : List Message) (answers : List sent.Answer) (bytes : List ℕ) → AreReadByTag IsMeantByTag ms answers bytes → AreReadByTag IsReadByTag ms answers bytes
run_is_read ms answers bytes run = run_weaker IsMeantByTag IsReadByTag meant_is_read ms answers bytes run

pub run_is_read_if_it_can : (ms : List Message) (answers : List sent.Answer) (bytes : List ℕ) → AreReadByTag IsMeantIfItCan ms answers bytes → AreReadByTag IsReadIfItCan ms answers bytes
run_is_read_if_it_can ms answers bytes run = run_weaker IsMeantIfItCan IsReadIfItCan (λ m frame meant can. meant_is_read m frame (meant can)) ms answers bytes run
