-- NotificationResponse: what is shown of the type.
use Rattle.std.specs.Prelude.{ℕ, ◌+◌, List, take, drop}
use Rattle.pg_format.specs.Messages.{Notification}
use Rattle.pg_receive.specs.declared.message.notification.NotificationRef.{NotificationRef}

-- the notification that a borrowed one is
abbrev pub notification_borrowed : NotificationRef → Notification
notification_borrowed n = record { process_id = n.process_id; channel = n.channel.now; payload = n.payload.now }

-- the notification of a process whose channel, a NUL and its payload these texts are
abbrev pub notification_in : ℕ → List ℕ → ℕ → Notification
notification_in process_id texts channel_len = record { process_id = process_id; channel = take channel_len texts; payload = drop (channel_len + 1) texts }
