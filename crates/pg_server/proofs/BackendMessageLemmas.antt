-- What a message without a fault says is read back from its body.
use Rattle.std.proofs.Common.{◌≡◌, ℕ, ◌+◌, ◌^◌, ◌<◌, ◌≤◌, [], ◌∷◌, ◌++◌, length, None, Ok, Bool, true, false, refl, arith, length-append}
use Rattle.std.specs.List.{flat_map, list_any}
use Rattle.std.proofs.lemmas.List.{append-nil}
use Rattle.pg_base.specs.Cutting.{max_length}
use Rattle.pg_base.specs.Numbers.{be16, be32}
use Rattle.pg_base.specs.Part.{PartLaw}
use Rattle.pg_base.specs.Tagged.{fault_of, checked_len, IsSame}
use Rattle.pg_format.specs.Format.{Lawful, Means}
use Rattle.pg_format.specs.Format.Nullable.{cell}
use Rattle.pg_format.specs.Format.Parts.{until_nul}
use Rattle.pg_format.specs.Messages as page
use Rattle.pg_format.specs.Replication.{is_set, bit, in_copy_data}
use Rattle.pg_format.specs.declared.replication.ReplicationKind.{ReplicationKind}
use Rattle.pg_format.specs.declared.replication.ReplicationKind.TheVariants as contents
use Rattle.pg_format.proofs.FormatLaws.Replication.{lawful_replication}
use Rattle.pg_format.proofs.FormatLaws.FromServer as server
use Rattle.pg_format.proofs.FormatLaws.Parts.{lawful_remaining}
use Rattle.pg_server.specs.Backend.OutboundMessage.{part_of, body, fault}
use Rattle.pg_server.specs.Backend.OutboundItem.{too_many, max_unsigned, max_signed, nul_fault, holds_nul, breaks_names}
use Rattle.pg_server.specs.Backend.Message as message
use Rattle.pg_server.specs.Backend.Message.{Message, law_of, IsInRange, IsReadable, IsRead, replication_fault, IsReplicationInRange}
use Rattle.pg_server.specs.Backend.Notice.{breaks_fields}
use Rattle.pg_server.proofs.BackendFitsLemmas.{numbers_fit, codes_fit, cell_fits, cells_fit, texts_fit, few_names, names_fit, fields_fit, columns_fit}
use Rattle.pg_base.proofs.TaggedLemmas.{len_fits, no_part_fault, no_fault}
use Rattle.pg_server.proofs.BackendOutboundItemLemmas.{few, neither, both_clean, no_nul_fault, clean}

-- no part of it has a fault, and its body is within the limit
parts : (m : Message) → fault (law_of m) ≡ None → (law_of m).part_fault ≡ None
parts m e = no_part_fault (law_of m).part_fault (length (body (law_of m))) e

small : (m : Message) → fault (law_of m) ≡ None → 4 + length (body (law_of m)) ≤ max_length
small m e = len_fits (law_of m).part_fault (length (body (law_of m))) e

-- its options can be counted where their length can be said
pub few_options : (n : page.Negotiation) → fault (law_of (message.NegotiateProtocolVersion n)) ≡ None → length n.options < 2 ^ 32
few_options n e =
    let options = be32 (length n.options) ++ flat_map until_nul.Writes n.options in
    few_names n.options (omega (arith, length-append (be16 n.major ++ be16 n.minor) options, small (message.NegotiateProtocolVersion n) e))

-- as a request by one of the six methods that sqlx-postgres knows
fits_known : (request : page.Authentication) → fault (law_of (message.Authentication (page.known_method request))) ≡ None → IsInRange (message.Authentication (page.known_method request)) → IsReadable (message.Authentication (page.known_method request)) → page.authentication.Fits request []
fits_known page.ok e r h = (((omega arith, refl), refl), refl)
fits_known page.cleartext_password e r h = (((omega arith, refl), refl), refl)
fits_known (page.md5_password salt) e r h = (((omega arith, (r, refl)), refl), refl)
fits_known (page.sasl names) e r h =
    let free = no_nul_fault (list_any breaks_names names) (parts (message.Authentication (page.known_method (page.sasl names))) e) in
    (((omega arith, ((names_fit names (0 ∷ []) free h, refl), refl)), refl), refl)
fits_known (page.sasl_continue content) e r h = (((omega arith, ((refl, h), refl)), refl), refl)
fits_known (page.sasl_final content) e r h = (((omega arith, ((refl, h), refl)), refl), refl)

-- as one by any method
among_all : (request : page.Authentication) → page.authentication.Fits request [] → page.any_authentication.Fits (page.known_method request) []
among_all page.ok p = (((omega arith, (p.0.0.1, refl)), refl), refl)
among_all page.cleartext_password p = (((omega arith, (p.0.0.1, refl)), refl), refl)
among_all (page.md5_password salt) p = (((omega arith, (p.0.0.1, refl)), refl), refl)
among_all (page.sasl names) p = (((omega arith, (p.0.0.1, refl)), refl), refl)
among_all (page.sasl_continue content) p = (((omega arith, (p.0.0.1, refl)), refl), refl)
among_all (page.sasl_final content) p = (((omega arith, (p.0.0.1, refl)), refl), refl)

fits_request : (request : page.AnyAuthentication) → fault (law_of (message.Authentication request)) ≡ None → IsInRange (message.Authentication request) → IsReadable (message.Authentication request) → page.any_authentication.Fits request []
fits_request (page.known_method request) e r h = among_all request (fits_known request e r h)
fits_request page.kerberos_v5 e r h = (((omega arith, refl), refl), refl)
fits_request page.scm_credential e r h = (((omega arith, refl), refl), refl)
fits_request page.gss e r h = (((omega arith, refl), refl), refl)
fits_request (page.gss_continue content) e r h = (((omega arith, (refl, refl)), refl), refl)
fits_request page.sspi e r h = (((omega arith, refl), refl), refl)
fits_request (page.other_method method content) e r h = absurd r

bit_fits : (set : Bool) → (bit set < 256) × (is_set (bit set) ≡ set)
bit_fits true = (omega arith, refl)
bit_fits false = (omega arith, refl)

fits_replication : (kind : ReplicationKind) (value : (in_copy_data kind).Value) → replication_fault kind value ≡ None → IsReplicationInRange kind value → (in_copy_data kind).format.Fits value []
fits_replication contents.XLogData x e r = ((r.0, (r.1, (r.2, refl))), refl)
fits_replication contents.PrimaryKeepalive k e r = ((r.0, (r.1, bit_fits k.wants_reply)), refl)
fits_replication contents.StandbyStatusUpdate u e r = ((r.0, (r.1, (r.2, (r.3, bit_fits u.wants_reply)))), refl)
fits_replication contents.HotStandbyFeedback f e r = ((r.0, (r.1, (r.2, (r.3, r.4)))), refl)
fits_replication contents.NewArchive a e r =
    let free = both_clean (holds_nul a.name) (holds_nul a.location) e in
    ((clean a.name free.0, clean a.location free.1), refl)
fits_replication contents.Manifest v e r = (refl, refl)
fits_replication contents.BackupData bytes e r = (refl, refl)
fits_replication contents.Progress n e r = (r, refl)

fits : (m : Message) → fault (law_of m) ≡ None → (law_of m).IsInRange → IsReadable m → (law_of m).line.Fits (law_of m).value []
fits (message.Authentication request) e r h = fits_request request e r h
fits (message.BackendKeyData key) e r h = (r, (refl, parts (message.BackendKeyData key) e))
fits (message.CommandComplete command) e r h = refl
fits (message.CopyData bytes) e r h = refl
fits (message.CopyResponse direction format codes) e r h =
    let count = few max_signed (length codes) (parts (message.CopyResponse direction format codes) e) in
    ((r.whole, (omega (arith, count), (refl, codes_fit codes [] r.columns))), refl)
fits (message.DataRow cells) e r h =
    let count = few max_unsigned (length cells) (parts (message.DataRow cells) e) in
    let long = length-append (be16 (length cells)) (flat_map cell.Writes cells) in
    (((omega (arith, count), (refl, cells_fit cells [] (omega (arith, long, small (message.DataRow cells) e)))), refl), refl)
fits (message.FunctionCallResponse value) e r h = (cell_fits value [] (omega (arith, small (message.FunctionCallResponse value) e)), refl)
fits (message.NegotiateProtocolVersion n) e r h =
    let free = no_nul_fault (list_any holds_nul n.options) (parts (message.NegotiateProtocolVersion n) e) in
    let count = few_options n e in
    ((r, ((count, (refl, texts_fit n.options [] free)), refl)), refl)
fits (message.NoBody kind) e r h = (refl, refl)
fits (message.Notice kind fields) e r h =
    ((fields_fit fields (0 ∷ []) (no_nul_fault (list_any breaks_fields fields) (parts (message.Notice kind fields) e)) r, refl), h)
fits (message.Notification n) e r h =
    let free = both_clean (holds_nul n.channel) (holds_nul n.payload) (parts (message.Notification n) e) in
    ((r, (clean n.channel free.0, clean n.payload free.1)), refl)
fits (message.ParameterDescription types) e r h =
    let count = few max_unsigned (length types) (parts (message.ParameterDescription types) e) in
    (((omega (arith, count), (refl, numbers_fit types [] r)), refl), refl)
fits (message.ParameterStatus s) e r h =
    let free = both_clean (holds_nul s.name) (holds_nul s.value) (parts (message.ParameterStatus s) e) in
    (((clean s.name free.0, h.name), (clean s.value free.1, h.value)), refl)
fits (message.Raw tag bytes) e r h = refl
fits (message.ReadyForQuery ready) e r h = (tt, refl)
fits (message.Replication kind value) e r h = (tt, fits_replication kind value (parts (message.Replication kind value) e) r)
fits (message.RowDescription columns) e r h =
    let holds = list_any (λ (column : page.Column). holds_nul column.name) columns in
    let both = neither (too_many max_unsigned (length columns)) (nul_fault holds) (parts (message.RowDescription columns) e) in
    let count = few max_unsigned (length columns) both.0 in
    (((omega (arith, count), (refl, columns_fit columns [] (no_nul_fault holds both.1) r h)), refl), refl)
fits (message.XLogContent piece content_fault) e r h = (tt, fits_replication contents.XLogData piece refl r)

lawful : (m : Message) → Lawful (law_of m).line
lawful (message.Authentication request) = server.lawful_any_authentication
lawful (message.BackendKeyData key) = server.lawful_backend_key
lawful (message.CommandComplete command) = lawful_remaining
lawful (message.CopyData bytes) = lawful_remaining
lawful (message.CopyResponse direction format codes) = server.lawful_copy_response
lawful (message.DataRow cells) = server.lawful_data_row
lawful (message.FunctionCallResponse value) = server.lawful_function_call_response
lawful (message.NegotiateProtocolVersion n) = server.lawful_negotiation
lawful (message.NoBody kind) = server.lawful_no_body
lawful (message.Notice kind fields) = server.lawful_notice
lawful (message.Notification n) = server.lawful_notification
lawful (message.ParameterDescription types) = server.lawful_parameter_description
lawful (message.ParameterStatus s) = server.lawful_parameter_status
lawful (message.Raw tag bytes) = lawful_remaining
lawful (message.ReadyForQuery ready) = server.lawful_ready_for_query
lawful (message.Replication kind value) = lawful_replication kind
lawful (message.RowDescription columns) = server.lawful_row_description
lawful (message.XLogContent piece content_fault) = lawful_replication contents.XLogData

-- what fits is read back, and nothing else is
pub own_message : (m : Message) → fault (law_of m) ≡ None → (law_of m).IsInRange → IsRead m
own_message m e r h read =
    let l = law_of m in
    let laws = lawful m in
    let itself : Means l.line (body l) l.value = rw append-nil at (laws.written l.value [] (fits m e r h)) in (
      (λ p. (laws.one_value (body l) [] [] read l.value p itself).0),
      (λ e. rw e itself),
    )

-- the line of the six methods reads a request as the line of all methods does
same_body : (request : page.Authentication) → page.authentication.Writes request ≡ page.any_authentication.Writes (page.known_method request)
same_body page.ok = refl
same_body page.cleartext_password = refl
same_body (page.md5_password salt) = refl
same_body (page.sasl names) = refl
same_body (page.sasl_continue content) = refl
same_body (page.sasl_final content) = refl

pub own_request : (request : page.Authentication) → fault (law_of (message.Authentication (page.known_method request))) ≡ None → IsInRange (message.Authentication (page.known_method request)) → IsReadable (message.Authentication (page.known_method request))
    → Means page.authentication (body (law_of (message.Authentication (page.known_method request)))) request
own_request request e r h =
    let itself : Means page.authentication (page.authentication.Writes request) request = rw append-nil at (server.lawful_authentication.written request [] (fits_known request e r h)) in
    rw (same_body request) at itself

-- a message has no fault whose parts were given a length
pub accepted : (part : PartLaw) (m : Message) (len : ℕ) → IsSame part (part_of (law_of m)) → checked_len (fault_of part) (length part.text) ≡ Ok len → fault (law_of m) ≡ None
accepted part m len same e =
    let none = no_fault (fault_of part) (length part.text) len e in
    rw (same.text, same.fault) at none
