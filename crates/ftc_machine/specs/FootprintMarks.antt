-- What a visit leaves in a vector: its number in each partition that it changes.
use Rattle.std.specs.Prelude.{ℕ, ◌==◌, ◌&&◌, List, if◌then◌else◌}
use Rattle.std.specs.List.{list_any}
use Rattle.ftc_machine.specs.declared.state.footprint.Touched.{Touched}
use Rattle.ftc_machine.specs.declared.state.footprint.Footprint.{Footprint}

-- the number in each partition that one of these changed, elsewhere what was there
abbrev pub marked_by : List Touched → ℕ → (ℕ → ℕ) → ℕ → ℕ
marked_by touched number reach partition =
    if list_any (λ (each : Touched). each.changed
    && (each.partition == partition)) touched then number else reach partition

abbrev pub marked_at : Footprint → (ℕ → ℕ) → ℕ → ℕ
marked_at footprint reach partition = marked_by footprint.touched.items footprint.number reach partition
