-- What was refused in two parts together, and what holds where nothing was.
use Rattle.std.proofs.Common.{◌||◌, ◌⊎◌, Bool, true, false, not, Result, Ok, Err, inl, inr, refl}
use Rattle.std.specs.Prelude.{IsTrue, IsFalse, OnOk, is_err}

pub none_of : (x y : Bool) → IsFalse (x || y) → IsFalse x × IsFalse y
none_of true y none = absurd cc
none_of false y none = (refl, none)

pub one_of : (x y : Bool) → IsTrue (x || y) → IsTrue x ⊎ IsTrue y
one_of true y some = inl refl
one_of false y some = inr some

pub is_so : (x : Bool) → IsFalse (not x) → IsTrue x
is_so true fine = refl
is_so false fine = absurd cc

pub is_not : (x : Bool) → IsTrue (not x) → IsFalse x
is_not true fine = absurd cc
is_not false fine = refl

-- what holds at Ok holds of an answer that is no error
pub on_ok_unless : {T E : Type 0} {P : Type 0} (r : Result T E) → OnOk r P → IsFalse (is_err r) → P
on_ok_unless (Ok x) holds fine = holds
on_ok_unless (Err e) holds fine = absurd cc
