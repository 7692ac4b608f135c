-- How a command ends that reads texts and then writes, as its status says.
use Rattle.std.specs.Prelude.{◌⊎◌}
use Rattle.ftc.specs.declared.status.Status.{Status}
use Rattle.ftc.specs.declared.status.Status.TheVariants as status

-- It is done; or a text was refused, and no file has changed; or it was cut short in its writing. Where memory was
-- refused, no file has changed yet or it was cut short. Where the desk is sound, a fault of it cuts nothing short: it
-- comes only from the reading.
abbrev pub EndsAs : Type 0 → Type 0 → (Status → Type 0) → Type 0 → Type 0 → Status → Type 0
EndsAs sound done IsRefused same cut status.Done = done
EndsAs sound done IsRefused same cut status.DeskFault = (IsRefused status.DeskFault × same) ⊎ (cut × (sound → ⊥))
EndsAs sound done IsRefused same cut status.NoMemory = same ⊎ cut
EndsAs sound done IsRefused same cut ending = IsRefused ending × same
