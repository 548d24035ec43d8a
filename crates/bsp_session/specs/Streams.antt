-- What a session reads and writes: streams of `counted_io`, for those who speak of sessions.
pub use Rattle.counted_io.specs.Streams.{Stream, stream, IsUntouched, ReadsWhole, HasFailed}
pub use Rattle.counted_io.specs.Streams.{ReadsPast, FailsWithin, IsCutShort, IsReadErrorOf}
