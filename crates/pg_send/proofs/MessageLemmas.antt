-- Each message that is within the limits and can make the round trip makes it, and no other does; and a reader takes for it
-- what the page means by it.
use Rattle.std.proofs.Common.{◌≡◌, ◌↔◌, ℕ, ◌+◌, ◌≤◌, List, [], ◌++◌, length, None, Result, Ok, Err, OnOk, refl, sym, ap, ◌∙◌, arith, length-append}
use Rattle.std.proofs.lemmas.List.{append-nil}
use Rattle.pg_base.specs.declared.error.Error.{Error}
use Rattle.pg_base.specs.declared.error.ProtocolFault.TheVariants.{TooManyParamFormats, TooManyResultFormats, TooManyParamTypes}
use Rattle.pg_base.specs.declared.format.FrontendMessageFormat.{FrontendMessageFormat}
use Rattle.pg_base.specs.Cutting.{frame}
use Rattle.pg_base.specs.Encode.{IsAnswer}
use Rattle.pg_base.specs.Numbers.{be32}
use Rattle.pg_base.specs.Reading.{HoldsNo, Text}
use Rattle.pg_base.specs.Ended.{ended}
use Rattle.pg_base.proofs.CuttingLemmas.{parts_at}
use Rattle.pg_base.proofs.ReadingLemmas.{one_text}
use Rattle.pg_format.specs.Format.{Canonical, AreBytes, Means}
use Rattle.pg_format.proofs.FormatLaws.FromClient as client
use Rattle.pg_format.proofs.FormatLaws.FromClient.{canonical_client}
use Rattle.pg_format.proofs.FormatLaws.Parts.{canonical_remaining}
use Rattle.pg_send.specs.Bind.{bind_count_fault}
use Rattle.pg_send.specs.Counted.{too_many}
use Rattle.pg_send.specs.Execute.{execute_value}
use Rattle.pg_send.specs.FrontendMessage.{Form, plain, raw, cleartext, md5, sasl_initial, any_sasl_initial, sasl_response}
use Rattle.pg_send.specs.Message as message
use Rattle.pg_send.specs.Message.{Message, law_of, kind_of, line, Meant, tag, body, text, fault, hint, IsInRange, CanRoundTrip, Reads, RoundTrips}
use Rattle.pg_send.specs.Page.{IsWritten, line_of}
use Rattle.pg_send.specs.Parse.{parse_count_fault, parse_value}
use Rattle.pg_send.specs.Password.{md5_value}
use Rattle.pg_send.specs.Password.Laws.{power_over_covers}
use Rattle.pg_send.specs.SaslInitialResponse.{mechanism, sasl_initial_value}
use Rattle.pg_send.specs.Target.{target_value}
use Rattle.pg_send.proofs.BindLemmas.{read_bind, one_bind}
use Rattle.pg_send.proofs.CountedLemmas.{few, neither}
use Rattle.pg_send.proofs.ExecuteLemmas.{read_execute, one_execute}
use Rattle.pg_base.proofs.TaggedLemmas.{len_fits, no_part_fault}
use Rattle.pg_send.proofs.FrontendMessageLemmas.{accepted_fits}
use Rattle.pg_send.proofs.PageLemmas.{one_meant_bind, bind_means, bind_written, bind_reads, target_means, execute_means, parse_means, parse_reads, sasl_initial_means, sasl_initial_reads, md5_means, text_reads}
use Rattle.pg_send.proofs.ParseLemmas.{read_parse, one_parse}
use Rattle.pg_send.proofs.PasswordLemmas.{read_md5, one_md5}
use Rattle.pg_send.proofs.RawLemmas.{read_raw_parse, read_raw_bind, read_function_call, read_raw_execute, read_raw_target, read_any_sasl}
use Rattle.pg_send.proofs.SaslInitialResponseLemmas.{read_sasl_initial, one_sasl_initial}
use Rattle.pg_send.proofs.TargetLemmas.{read_target, one_target}
use Rattle.pg_send.proofs.ValuesLemmas.{itself, one_meant}

read_text : (text : List ℕ) → HoldsNo 0 text → Text (ended text) text []
read_text text h = record { clean = h; parts = refl }

-- ---- a line a message

pub reads_itself : (m : Message) → fault m ≡ None → IsInRange m → CanRoundTrip m → (law_of m).Reads (body m)
reads_itself (message.Bind b) f r k =
    let counts = neither (too_many TooManyParamFormats (length b.formats)) (too_many TooManyResultFormats (length b.result_formats)) (no_part_fault (bind_count_fault b) (length (body (message.Bind b))) f) in
    read_bind b r (few TooManyParamFormats (length b.formats) counts.0) (few TooManyResultFormats (length b.result_formats) counts.1) k
reads_itself (message.CleartextPassword text) f r k = read_text text k
reads_itself (message.Close target) f r k = read_target target r
reads_itself (message.CopyData bytes) f r k = refl
reads_itself message.CopyDone f r k = refl
reads_itself (message.CopyFail text) f r k = read_text text k
reads_itself (message.Describe target) f r k = read_target target r
reads_itself (message.Execute e) f r k = read_execute e r
reads_itself message.Flush f r k = refl
reads_itself (message.FunctionCall c) f r k = read_function_call c f r
reads_itself (message.Md5Password digest) f r k = read_md5 digest r
reads_itself (message.Parse p) f r k =
    read_parse p r (few TooManyParamTypes (length p.param_types) (no_part_fault (parse_count_fault p) (length (body (message.Parse p))) f)) k
reads_itself (message.Query text) f r k = read_text text k
reads_itself (message.RawBind b) f r k = read_raw_bind b f r k
reads_itself (message.RawClose target) f r k = read_raw_target target k
reads_itself (message.RawDescribe target) f r k = read_raw_target target k
reads_itself (message.RawExecute e) f r k = read_raw_execute e r k
reads_itself (message.RawParse p) f r k = read_raw_parse p f r k
reads_itself (message.SaslInitial s) f r k = read_any_sasl s f k
reads_itself (message.SaslInitialResponse s) f r k =
    let fits = len_fits None (length (body (message.SaslInitialResponse s))) f in
    read_sasl_initial s (omega (arith, fits, length-append (ended (mechanism s.plus)) (be32 (length s.response) ++ s.response), length-append (be32 (length s.response)) s.response))
reads_itself (message.SaslResponse bytes) f r k = refl
reads_itself message.Sync f r k = refl
reads_itself message.Terminate f r k = refl

one_text_alone : (bytes t u : List ℕ) → Text bytes t [] → Text bytes u [] → t ≡ u
one_text_alone bytes t u p q = (one_text bytes t u [] [] p q).0

-- equal bytes are read as one message of a kind
pub one_message : (bytes : List ℕ) (m n : Message) → kind_of m ≡ kind_of n → (law_of m).Reads bytes → (law_of n).Reads bytes → m ≡ n
one_message bytes (message.Bind a) (message.Bind b) e p q = ap message.Bind (one_bind bytes a b p q)
one_message bytes (message.CleartextPassword t) (message.CleartextPassword u) e p q = ap message.CleartextPassword (one_text_alone bytes t u p q)
one_message bytes (message.Close a) (message.Close b) e p q = ap message.Close (one_target bytes a b p q)
one_message bytes (message.CopyData a) (message.CopyData b) e p q = ap message.CopyData (sym p ∙ q)
one_message bytes message.CopyDone message.CopyDone e p q = refl
one_message bytes (message.CopyFail t) (message.CopyFail u) e p q = ap message.CopyFail (one_text_alone bytes t u p q)
one_message bytes (message.Describe a) (message.Describe b) e p q = ap message.Describe (one_target bytes a b p q)
one_message bytes (message.Execute a) (message.Execute b) e p q = ap message.Execute (one_execute bytes a b p q)
one_message bytes message.Flush message.Flush e p q = refl
one_message bytes (message.FunctionCall a) (message.FunctionCall b) e p q = ap message.FunctionCall (one_meant client.lawful_function_call bytes a b p q)
one_message bytes (message.Md5Password a) (message.Md5Password b) e p q = ap message.Md5Password (one_md5 bytes a b p q)
one_message bytes (message.Parse a) (message.Parse b) e p q = ap message.Parse (one_parse bytes a b p q)
one_message bytes (message.Query t) (message.Query u) e p q = ap message.Query (one_text_alone bytes t u p q)
one_message bytes (message.RawBind a) (message.RawBind b) e p q = ap message.RawBind (one_meant client.lawful_bind bytes a b p q)
one_message bytes (message.RawClose a) (message.RawClose b) e p q = ap message.RawClose (one_meant client.lawful_targeted bytes a b p q)
one_message bytes (message.RawDescribe a) (message.RawDescribe b) e p q = ap message.RawDescribe (one_meant client.lawful_targeted bytes a b p q)
one_message bytes (message.RawExecute a) (message.RawExecute b) e p q = ap message.RawExecute (one_meant client.lawful_execute bytes a b p q)
one_message bytes (message.RawParse a) (message.RawParse b) e p q = ap message.RawParse (one_meant client.lawful_parse bytes a b p q)
one_message bytes (message.SaslInitial a) (message.SaslInitial b) e p q = ap message.SaslInitial (one_meant client.lawful_sasl_initial_response bytes a b p q)
one_message bytes (message.SaslInitialResponse a) (message.SaslInitialResponse b) e p q = ap message.SaslInitialResponse (one_sasl_initial bytes a b p q)
one_message bytes (message.SaslResponse a) (message.SaslResponse b) e p q = ap message.SaslResponse (sym p ∙ q)
one_message bytes message.Sync message.Sync e p q = refl
one_message bytes message.Terminate message.Terminate e p q = refl
one_message bytes m n e _ _ = absurd (cc (ap (λ kind. kind.0) e, ap (λ kind. kind.1) e))

-- ---- and what the page means by each

pub one : (m : Message) (v w : (line m).Value) → Meant m v → Meant m w → v ≡ w
one (message.Bind b) v w p q = one_meant_bind b v w p q
one m v w p q = p ∙ sym q

pub means : (m : Message) (bytes : List ℕ) → AreBytes bytes → (law_of m).Reads bytes → (v : (line m).Value) × Meant m v × Means (line m).format bytes v
means (message.Bind b) bytes h p = bind_means bytes b h p
means (message.CleartextPassword text) bytes h p = (text, refl, (p, refl))
means (message.Close target) bytes h p = (target_value target, refl, target_means bytes target p)
means (message.CopyData sent) bytes h p = (sent, refl, (sym p, refl))
means message.CopyDone bytes h p = (tt, refl, ((refl, sym p), refl))
means (message.CopyFail text) bytes h p = (text, refl, (p, refl))
means (message.Describe target) bytes h p = (target_value target, refl, target_means bytes target p)
means (message.Execute e) bytes h p = (execute_value e, refl, execute_means bytes e p)
means message.Flush bytes h p = (tt, refl, ((refl, sym p), refl))
means (message.FunctionCall f) bytes h p = (f, refl, p)
means (message.Md5Password digest) bytes h p = (md5_value digest, refl, md5_means bytes digest p)
means (message.Parse s) bytes h p = (parse_value s, refl, parse_means bytes s p)
means (message.Query text) bytes h p = (text, refl, (p, refl))
means (message.RawBind b) bytes h p = (b, refl, p)
means (message.RawClose target) bytes h p = (target, refl, p)
means (message.RawDescribe target) bytes h p = (target, refl, p)
means (message.RawExecute e) bytes h p = (e, refl, p)
means (message.RawParse s) bytes h p = (s, refl, p)
means (message.SaslInitial s) bytes h p = (s, refl, p)
means (message.SaslInitialResponse s) bytes h p = (sasl_initial_value s, refl, sasl_initial_means bytes s p)
means (message.SaslResponse sent) bytes h p = (sent, refl, (sym p, refl))
means message.Sync bytes h p = (tt, refl, ((refl, sym p), refl))
means message.Terminate bytes h p = (tt, refl, ((refl, sym p), refl))

-- the body is what is written of what is meant
is_written : (m : Message) (v : (line m).Value) → Meant m v → body m ≡ (line m).format.Writes v
is_written (message.Bind b) v p = bind_written b v p
is_written m v p = ap (line m).format.Writes (sym p)

-- and is read where that fits
reads : (m : Message) (v : (line m).Value) → Meant m v → (line m).format.Fits v [] → IsInRange m → (law_of m).Reads (body m)
reads (message.Bind b) v p fits r = bind_reads b v p fits r
reads (message.CleartextPassword text) v p fits r = text_reads text v p fits
reads (message.Close target) v p fits r = read_target target r
reads (message.CopyFail text) v p fits r = text_reads text v p fits
reads (message.Describe target) v p fits r = read_target target r
reads (message.Execute e) v p fits r = read_execute e r
reads (message.FunctionCall f) v p fits r = itself client.lawful_function_call f (rw p at fits)
reads (message.Md5Password digest) v p fits r = read_md5 digest r
reads (message.Parse s) v p fits r = parse_reads s (rw p at fits) r
reads (message.Query text) v p fits r = text_reads text v p fits
reads (message.RawBind b) v p fits r = itself client.lawful_bind b (rw p at fits)
reads (message.RawClose target) v p fits r = itself client.lawful_targeted target (rw p at fits)
reads (message.RawDescribe target) v p fits r = itself client.lawful_targeted target (rw p at fits)
reads (message.RawExecute e) v p fits r = itself client.lawful_execute e (rw p at fits)
reads (message.RawParse s) v p fits r = itself client.lawful_parse s (rw p at fits)
reads (message.SaslInitial s) v p fits r = itself client.lawful_sasl_initial_response s (rw p at fits)
reads (message.SaslInitialResponse s) v p fits r = sasl_initial_reads s (rw p at fits)
reads m v p fits r = refl

-- ---- over any message

-- within the limits the room that is reserved holds the body
pub hint_covers : (m : Message) → fault m ≡ None → length (body m) ≤ hint m
hint_covers (message.CleartextPassword text) f = power_over_covers (length (ended text)) (omega (arith, len_fits None (length (ended text)) f))
hint_covers m f = omega (arith, len_fits (law_of m).count_fault (length (body m)) f)

pub round_trips : (m : Message) → fault m ≡ None → IsInRange m → CanRoundTrip m → RoundTrips m
round_trips m f r k =
    let whole = reads_itself m f r k in
    record { reads = (refl, whole); only = λ other also. one_message (body m) other m also.0 also.1 whole }

pub round_trips_if_ok : (m : Message) (a : Result (Unit {0}) Error) → IsAnswer (fault m) a → OnOk a (IsInRange m) → OnOk a (CanRoundTrip m → RoundTrips m)
round_trips_if_ok m (Ok u) h r = λ k. round_trips m (accepted_fits (fault m) u h) r k
round_trips_if_ok m (Err e) h r = tt

-- one frame has one body
one_body : (a b : ℕ) (x y : List ℕ) → frame a x ≡ frame b y → x ≡ y
one_body a b x y e =
    let tails : be32 (length x + 4) ++ x ≡ be32 (length y + 4) ++ y = cc in
    (parts_at (be32 (length x + 4)) (be32 (length y + 4)) x y refl tails).1

pub one_of_kind : (m n : Message) → fault m ≡ None → fault n ≡ None → IsInRange m → IsInRange n → CanRoundTrip m → CanRoundTrip n → kind_of m ≡ kind_of n → text m ≡ text n → m ≡ n
one_of_kind m n f g r s k l kinds texts =
    let bodies : body m ≡ body n = one_body (tag m) (tag n) (body m) (body n) texts in
    let second : (law_of n).Reads (body m) = rw bodies (reads_itself n g s l) in
    one_message (body m) m n kinds (reads_itself m f r k) second

-- the line of each form
canonical : (form : Form) (format : FrontendMessageFormat) → Canonical (line_of form format).format
canonical plain format = canonical_client format
canonical raw format = canonical_client format
canonical cleartext format = client.canonical_text
canonical md5 format = client.canonical_text
canonical sasl_initial format = client.canonical_sasl_initial_response
canonical any_sasl_initial format = client.canonical_sasl_initial_response
canonical sasl_response format = canonical_remaining

pub written : (m : Message) → fault m ≡ None → IsInRange m → CanRoundTrip m → AreBytes (body m) → (v : (line m).Value) × Meant m v × IsWritten (line m).format (body m) v
written m f r k h =
    let p = means m (body m) h (reads_itself m f r k) in
    let c = canonical (law_of m).form (law_of m).format in
    (p.0, p.1, record { is = c.same (body m) [] p.0 h p.2 ∙ append-nil ((line m).format.Writes p.0); fits = c.fits (body m) [] p.0 h p.2 })

read_back : (m : Message) (bytes : List ℕ) → IsInRange m → AreBytes bytes → (v : (line m).Value) → Meant m v → Means (line m).format bytes v → (law_of m).Reads bytes
read_back m bytes r h v p q =
    let c = canonical (law_of m).form (law_of m).format in
    let same : bytes ≡ body m = c.same bytes [] v h q ∙ append-nil ((line m).format.Writes v) ∙ sym (is_written m v p) in
    rw same (reads m v p (c.fits bytes [] v h q) r)

pub read : (m : Message) (bytes : List ℕ) → IsInRange m → AreBytes bytes → Reads (kind_of m) bytes m ↔ ((v : (line m).Value) × Meant m v × Means (line m).format bytes v)
read m bytes r h = ((λ p. means m bytes h p.1), (λ p. (refl, read_back m bytes r h p.0 p.1 p.2)))
