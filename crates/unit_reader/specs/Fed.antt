-- What a reader answers that keeps its refusal.
use Rattle.std.specs.Prelude.{◌≡◌, ℕ, Bool, List, Option, None, Some, Result, Ok, Err}
use Rattle.unit_reader.specs.Units.{Broken, Verdict, WasFed, reading}
use Rattle.unit_reader.specs.declared.fed.Fed.{Fed}
use Rattle.unit_reader.specs.declared.units.Stop.{Stop}
use Rattle.unit_reader.specs.declared.units.Stop.TheVariants as stop

-- What a piece gave: its items, or those before the break. A refusal is kept.
abbrev pub Answers : {S I F : Type 0} → (S → Bool) → (S → List ℕ → Verdict S I F) → S × List ℕ → List ℕ → S × List ℕ → List I → Option (Stop F) → Result (Fed I) (Stop F) → Type 0
Answers shut judge old piece new before kept (Ok fed) =
    (kept ≡ None) × WasFed shut judge old.0 old.1 piece fed.used fed.items.items new.0 new.1
Answers shut judge old piece new before kept (Err (stop.Broken fault)) =
    (kept ≡ Some (stop.Broken fault)) × (reading shut judge old.0 old.1 piece ≡ record { items = before; place = Broken fault })
Answers shut judge old piece new before kept (Err stop.NoMemory) = kept ≡ Some stop.NoMemory
