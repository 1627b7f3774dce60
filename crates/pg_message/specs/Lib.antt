pub mod Backend
pub mod Frontend
pub mod Message
pub use Rattle.pg_base.specs as pg_base
pub use Rattle.pg_format.specs as pg_format
pub use Rattle.pg_frames.specs as pg_frames
pub use Rattle.pg_receive.specs as pg_receive
pub use Rattle.pg_replication.specs as pg_replication
pub use Rattle.pg_send.specs as pg_send
pub use Rattle.pg_server.specs as pg_server
