-- What the calls leave in the memory that they are lent: cells, places for a sheet, and places for holders.
use Rattle.std.specs.Prelude.{◌≡◌, ℕ, ◌⊎◌, List, length, take, drop, Some, None, Ok, Err, Option, Result, ◌≢◌}
use Rattle.weighing.specs.Laws.{Algebra}
use Rattle.book.specs.Books.{Meaning}
use Rattle.book.specs.declared.refusal.Refusal.{Refusal}
use Rattle.book.specs.declared.refusal.QuestionCause.TheVariants.{NoAssignment}
use Rattle.aggregation.specs.declared.join.Join.{Join}
use Rattle.aggregation.specs.Orders.{total}
use Rattle.aggregation.specs.Listing.{Assignment}
use Rattle.order.specs.Shapes.{shape_of}
use Rattle.permits.specs.Networks.{net_of}
use Rattle.permits.specs.Permits.{weight}
use Rattle.engine.specs.declared.call.Call.{Call}
use Rattle.engine.specs.declared.call.Call.TheVariants.{Order, Bar, Lift, Ask}
use Rattle.engine.specs.declared.lent.Lent.{Lent}
use Rattle.engine.specs.Phases.{filled, evaluated}
use Rattle.engine.specs.declared.question.Question.TheVariants.{Total, TableSheet, LockSheet, Assignment as Assigning}
use Rattle.engine.specs.Questions.{asked_at, left_by, joins_in, question_refusal}
use Rattle.engine.specs.Sheets.{table_sheet, lock_sheet}

pub record Memory (P : Type 0) : Type 0 where
  pub cells : List P
  pub sheet : List P
  pub holders : List ℕ

-- the memory that holds these
abbrev pub lent : {P : Type 0} → List P → List P → List ℕ → Memory P
lent cells sheet holders = record { cells = cells; sheet = sheet; holders = holders }

-- what stands in the memory that is lent
abbrev pub memory_in : {P : Type 0} → Lent P → Memory P
memory_in l = lent l.cells.now l.sheet.now l.holders.now

-- it is the same memory, and as long
pub record SameMemory {P : Type 0} (l k : Lent P) : Type 0 where
  pub cells : l.cells.ghost_name ≡ k.cells.ghost_name
  pub sheet : l.sheet.ghost_name ≡ k.sheet.ghost_name
  pub holders : l.holders.ghost_name ≡ k.holders.ghost_name
  pub lengths : (length l.cells.now ≡ length k.cells.now) × (length l.sheet.now ≡ length k.sheet.now) × (length l.holders.now ≡ length k.holders.now)

-- m is what the book with its bars means, and this the order in force
module _ {W P : Type 0} (a : Algebra W P) (m : Meaning) (order : Option (List Join)) where
  -- the cells after a total
  abbrev pub cells_filled : List P → List P
  cells_filled cells = filled a m (joins_in order) cells

  -- the cells after a sheet
  abbrev pub cells_evaluated : List P → List P
  cells_evaluated cells = evaluated a m (joins_in order) cells

  -- an assignment stands at the front, its weight is the total, and beyond it all is as it was
  pub record Chosen (before after : List ℕ) : Type 0 where
    pub assignment : Assignment m.holders m.locks (take m.locks after)
    pub weighs : weight a m (take m.locks after) ≡ total a.ops (net_of a m) (joins_in order)
    pub beyond : drop m.locks after ≡ drop m.locks before

  -- what an assignment call answers, and what it leaves in the holders' places: refused by the first refusal that
  -- applies, or since the total is none, it leaves them; else it writes a chosen assignment
  abbrev pub Assigns : Option Refusal → List ℕ → List ℕ → Result (Unit {0}) Refusal → Type 0
  Assigns refusal before after (Ok done) = (refusal ≡ None) × (total a.ops (net_of a m) (joins_in order) ≢ a.ops.none) × Chosen before after
  Assigns refusal before after (Err e) =
      (after ≡ before)
      × ((refusal ≡ Some e) ⊎ ((refusal ≡ None) × (total a.ops (net_of a m) (joins_in order) ≡ a.ops.none) × (e ≡ asked_at 0 NoAssignment)))

  -- what a call leaves
  abbrev pub Leaves : Call → Memory P → Memory P → Type 0
  Leaves (Order js) before after = after ≡ before
  Leaves (Bar l d) before after = after ≡ before
  Leaves (Lift l d) before after = after ≡ before
  Leaves (Ask Total) before after =
      after ≡ record {
        cells = left_by (question_refusal (shape_of m) order Total (length before.cells) 0) (cells_filled before.cells) before.cells;
        sheet = before.sheet;
        holders = before.holders;
      }
  Leaves (Ask (TableSheet t)) before after =
      let refusal = question_refusal (shape_of m) order (TableSheet t) (length before.cells) (length before.sheet) in
      after ≡ record {
        cells = left_by refusal (cells_evaluated before.cells) before.cells;
        sheet = left_by refusal (table_sheet a m t before.sheet) before.sheet;
        holders = before.holders;
      }
  Leaves (Ask (LockSheet l)) before after =
      let refusal = question_refusal (shape_of m) order (LockSheet l) (length before.cells) (length before.sheet) in
      after ≡ record {
        cells = left_by refusal (cells_evaluated before.cells) before.cells;
        sheet = left_by refusal (lock_sheet a m l before.sheet) before.sheet;
        holders = before.holders;
      }
  Leaves (Ask Assigning) before after =
      let refusal = question_refusal (shape_of m) order Assigning (length before.cells) (length before.holders) in
      (after.cells ≡ left_by refusal (cells_filled before.cells) before.cells)
      × (after.sheet ≡ before.sheet)
      × ((r : Result (Unit {0}) Refusal) × Assigns refusal before.holders after.holders r)
