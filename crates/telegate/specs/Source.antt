-- What a text is, as far as a reader of it notes.
pub use Rattle.traces.specs.Blocks.{Gives}
