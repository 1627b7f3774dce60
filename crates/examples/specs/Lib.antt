pub mod CopyLoad
