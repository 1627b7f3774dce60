use Rattle.std.proofs.Common.{◌≡◌, ℕ, ◌+◌, List, [], ◌∷◌, ◌++◌, length, take, drop, refl, sym, ap, ◌∙◌, arith, append_assoc, length-append}
use Rattle.std.proofs.lemmas.List.{take_at, drop_at}
use Rattle.pg_base.specs.Reading.{Text}
use Rattle.pg_format.specs.Format.{Means}
use Rattle.pg_format.specs.Messages.{Notification, notification}
use Rattle.pg_receive.proofs.message.notification.NotificationBackendMessage.decode_body.Goals as goal

-- The texts of a notification are found again in what is kept of its body.

-- what is kept: the first text, its 0, and the second
kept : (texts channel after payload rest : List ℕ) → Text texts channel after → Text after payload rest
    → take (length channel + 1 + length payload) texts ≡ channel ++ 0 ∷ payload
kept texts channel after payload rest p q =
    let whole : texts ≡ (channel ++ 0 ∷ payload) ++ 0 ∷ rest =
    p.parts ∙ ap (λ (more : List ℕ). channel ++ 0 ∷ more) q.parts ∙ sym (append_assoc channel (0 ∷ payload) (0 ∷ rest)) in
    rw whole (take_at (channel ++ 0 ∷ payload) (0 ∷ rest) (length channel + 1 + length payload) (omega (arith, length-append channel (0 ∷ payload))))

-- the first text of what is kept, and the second
means_kept : (body keeps : List ℕ) (v : Notification) → Means notification body v → keeps ≡ take (length v.channel + 1 + length v.payload) (drop 4 body)
    → Means notification body (record { process_id = v.process_id; channel = take (length v.channel) keeps; payload = drop (length v.channel + 1) keeps })
means_kept body keeps v h is =
    let texts_are : drop 4 body ≡ h.1.mid = rw h.1.first.parts (drop_at h.1.first.spelled h.1.mid 4 h.1.first.wide) in
    let keeps_are : keeps ≡ v.channel ++ 0 ∷ v.payload = is ∙ ap (take (length v.channel + 1 + length v.payload)) texts_are ∙ kept h.1.mid v.channel h.1.second.mid v.payload h.0 h.1.second.first h.1.second.second in
    let channel_is : take (length v.channel) keeps ≡ v.channel = rw keeps_are (take_at v.channel (0 ∷ v.payload) (length v.channel) refl) in
    let payload_is : drop (length v.channel + 1) keeps ≡ v.payload =
    rw (keeps_are, ← append_assoc v.channel (0 ∷ []) v.payload) (drop_at (v.channel ++ 0 ∷ []) v.payload (length v.channel + 1) (length-append v.channel (0 ∷ []))) in
    rw (channel_is, payload_is) h

pub returns : goal.returns
returns c =
    let parts = c.in_ok-process_id.field-0 in
    let borrowed : c.as_slice.result.now ≡ c.args.buf = c.as_slice.ensures in
    means_kept c.args.buf c.truncate.new.self (record { process_id = parts.process_id; channel = parts.channel.now; payload = parts.payload.now })
    (rw borrowed at c.in_ok-process_id.ensures) (c.truncate.ensures ∙ ap (take (length parts.channel.now + 1 + length parts.payload.now)) c.advance.ensures)
