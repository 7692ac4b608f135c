-- Lists of logs without a common one.
use Rattle.std.proofs.Common.{◌≡◌, not, true, false, List}
use Rattle.std.proofs.lemmas.Bool.{not-true}
use Rattle.std.specs.List.{list_all}
use Rattle.ftc_message.specs.Logged.{Logged}
use Rattle.ftc_message.specs.Ordered.{HasNone, AreApart, is_log_of}
use Rattle.ftc_server.specs.Looks.{are_apart}
use Rattle.ftc_server.proofs.Lent.{each_of}

pub apart_is : (logs others : List Logged) → are_apart logs others ≡ true → AreApart logs others
apart_is logs others apart =
    each_of (λ (log : Logged). HasNone log others)
    (λ (log : Logged). list_all (λ (other : Logged). not (is_log_of log.origin log.group other)) others) logs
    (λ log is.
    each_of (λ (other : Logged). is_log_of log.origin log.group other ≡ false)
    (λ (other : Logged). not (is_log_of log.origin log.group other)) others
    (λ other isnt. not-true (is_log_of log.origin log.group other) isnt) is) apart
