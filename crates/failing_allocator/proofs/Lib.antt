-- The lemmas of this crate's proofs: the call that counts a request.
mod Calls
