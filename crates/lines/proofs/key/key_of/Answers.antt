use Rattle.std.proofs.Common.{◌≡◌, ◌++◌, ℕ, List, arith}
use Rattle.lines.specs.Told.{key}
use Rattle.lines.specs.declared.kind.Kind.{Kind}
use Rattle.lines.specs.declared.kind.Kind.TheVariants as kind
use Rattle.lines.proofs.key.key_of.Goals as goal
use Rattle.lines.proofs.key.key_of.Goals.{In_default}

none : (c : In_default) (k : Kind) (x : List ℕ) → c.args.line.now ≡ key k ++ x → ⊥
none c kind.Locks x e = grind arith
none c kind.Holders x e = grind arith
none c kind.Table x e = grind arith
none c kind.Row x e = grind arith
none c kind.Differ x e = grind arith
none c kind.Same x e = grind arith
none c kind.Join x e = grind arith
none c kind.Bar x e = grind arith

pub returns-in_default : goal.returns-in_default
returns-in_default c = none c
