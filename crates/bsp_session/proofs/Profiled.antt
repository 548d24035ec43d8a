-- The errors of a session that also writes a profile.
use Rattle.std.proofs.Common.{◌≡◌, List, ℕ, Result, Ok, Err, IfErr}
use Rattle.std.specs.Prelude.{IsErrOf, ◌↔◌}
use Rattle.bsp_session.specs.declared.errors.SessionError.{SessionError}
use Rattle.bsp_session.specs.declared.errors.SessionError.TheVariants.{BadSettings, TooLong, Text, BadImage, SegmentOutside, ReadFault}
use Rattle.bsp_session.specs.declared.errors.SessionError.TheVariants.{TooManyNodes, WriteFault, NoWorker, NoMemory}
use Rattle.bsp_session.specs.Profiles.{HasTooManyNodes, IsErrorOfProfiled, IsProfile}
use Rattle.bsp_session.specs.Session.{Session}
use Rattle.bsp_session.specs.Streams.{Stream}
use Rattle.bsp_session.specs.Told.{IsErrorOfTold}

-- an error of a session that tells of its run is one of a session with a profile
pub profiled : (s : Session) (told : Stream) (e : SessionError) → IsErrorOfTold IsProfile s told e → IsErrorOfProfiled s told e
profiled s told (BadSettings cause) why = why
profiled s told TooLong why = why
profiled s told (Text cause) why = why
profiled s told (BadImage cause) why = why
profiled s told SegmentOutside why = why
profiled s told TooManyNodes why = absurd why.0
profiled s told ReadFault why = why
profiled s told WriteFault why = why
profiled s told NoWorker why = why
profiled s told NoMemory why = why

-- too many nodes are refused exactly where there are too many
pub too_many_exact : {X : Type 0} (s : Session) (told : Stream) (r : Result X SessionError) → (HasTooManyNodes s.job → ⊥)
    → IfErr r (IsErrorOfTold IsProfile s told)
    → IsErrOf r TooManyNodes ↔ HasTooManyNodes s.job
too_many_exact s told (Ok x) few err = (λ is. cc, λ many. absurd (few many))
too_many_exact s told (Err (BadSettings cause)) few err = (λ is. cc, λ many. absurd (few many))
too_many_exact s told (Err TooLong) few err = (λ is. cc, λ many. absurd (few many))
too_many_exact s told (Err (Text cause)) few err = (λ is. cc, λ many. absurd (few many))
too_many_exact s told (Err (BadImage cause)) few err = (λ is. cc, λ many. absurd (few many))
too_many_exact s told (Err SegmentOutside) few err = (λ is. cc, λ many. absurd (few many))
too_many_exact s told (Err TooManyNodes) few err = absurd err.0
too_many_exact s told (Err ReadFault) few err = (λ is. cc, λ many. absurd (few many))
too_many_exact s told (Err WriteFault) few err = (λ is. cc, λ many. absurd (few many))
too_many_exact s told (Err NoWorker) few err = (λ is. cc, λ many. absurd (few many))
too_many_exact s told (Err NoMemory) few err = (λ is. cc, λ many. absurd (few many))
