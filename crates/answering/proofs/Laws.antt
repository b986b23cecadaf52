-- What the calls need of files whose verdict is known.
-- Assumes nothing.
use Rattle.std.specs.Prelude.{Ok}
use mathlib.Core.Path.{◌≡◌, sym, ◌∙◌}
use mathlib.Core.List.{List}
use Prim.Native.Nat.{ℕ, ◌≤◌}
use lib.ListN.{length}
use Rattle.rules.specs.Limits.{contents_bytes}
use Rattle.rules.specs.File.{contents_verdict}
use Rattle.rules.specs.Answers.{Verdict}
use Rattle.rules.proofs.Contents.{accepted_contents}

pub contents_inside : (file : List ℕ) (v : Verdict) → v ≡ contents_verdict file → v ≡ Ok tt → contents_bytes ≤ length file
contents_inside file v e f = (accepted_contents file (sym e ∙ f)).long_enough
