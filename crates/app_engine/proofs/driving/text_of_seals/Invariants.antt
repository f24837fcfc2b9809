use Rattle.std.specs.Prelude.{take, string_bytes}
use Rattle.app_engine.specs.Steps.SealedTexts.{AreTrueTexts}
use Rattle.app_engine.proofs.driving.text_of_seals.Given as goal

-- the text says what the histories so far are
abbrev pub invariant-loop-sealed : goal.invariant-loop-sealed
invariant-loop-sealed g l = AreTrueTexts g.O.Drivable.any l.input (take l.sealed-index l.seals) (string_bytes l.text)
