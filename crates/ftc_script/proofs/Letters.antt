-- Printed numbers are read again as what a word says.
use Rattle.std.proofs.Common.{◌≡◌, ◌≤◌, ℕ, refl, Ok}
use Rattle.std.specs.Prelude.{decimal}
use Rattle.ftc_base.proofs.Decimals.{number_of-decimal}
use Rattle.ftc_base.specs.declared.limits.TheConstants.{MOST_NUMBER}
use Rattle.ftc_script.specs.Words.{number_word}
pub use Rattle.ftc_base.proofs.EachOf.{all-append}

pub number_word-decimal : (n : ℕ) → n ≤ 4294967295 → number_word (decimal n) ≡ Ok n
number_word-decimal n small = rw (number_of-decimal n MOST_NUMBER small small) refl
