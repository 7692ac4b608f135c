-- What the test of coverage says.
pub use Rattle.ftc_vector.proofs.OrderTests.{covered, covers_from, not_covered}
