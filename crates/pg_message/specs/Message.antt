-- The words in which a contract speaks of messages, passed on from the crates below: a crate that
-- depends on this one alone imports them from here.
pub use Rattle.pg_base.specs.Cutting.{Begins, Cut, IsCutInto, frame, max_length}
pub use Rattle.pg_base.specs.Format.{backend_tag, format_name, frontend_tag}
pub use Rattle.pg_send.specs.FrontendMessage.{EncodesMessage, Law, fault, text}
pub use Rattle.pg_send.specs.Message.{law_of}
pub use Rattle.pg_send.specs.Startup.{StartupFields, startup_fields, startup_text}
pub use Rattle.pg_receive.specs.CommandComplete.{row_count}
pub use Rattle.pg_frames.specs.Stream.{Stream, WantsMore, IsStreamFault}
