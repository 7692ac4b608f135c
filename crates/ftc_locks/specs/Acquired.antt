-- What is so in each answer to a request.
use Rattle.std.specs.Prelude.{ℕ}
use Rattle.ftc_locks.specs.declared.acquired.Acquired.{Acquired}
use Rattle.ftc_locks.specs.declared.acquired.Acquired.TheVariants.{Granted, Blocked}

-- where the request is granted, this is so of those that it wounds
abbrev pub IfGranted : Acquired → (ℕ → Type 0) → Type 0
IfGranted (Granted wounded) P = P wounded
IfGranted (Blocked holder) P = Unit {0}

-- where the request is granted, this is so
abbrev pub OnGranted : Acquired → Type 0 → Type 0
OnGranted (Granted wounded) P = P
OnGranted (Blocked holder) P = Unit {0}

-- where the request is blocked, this is so of the worker that is in its way
abbrev pub IfBlocked : Acquired → (ℕ → Type 0) → Type 0
IfBlocked (Granted wounded) P = Unit {0}
IfBlocked (Blocked holder) P = P holder
