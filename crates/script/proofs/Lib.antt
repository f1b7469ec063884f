-- The laws that the proofs of `script` cite, and the proofs of what is claimed of the bytes that are printed.
pub mod AllPrinted
pub mod LastFeed
pub mod PrintedKeeps
pub mod StreamLaws
