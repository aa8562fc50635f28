use Rattle.std.proofs.Common.{[], ◌∷◌, ◌++◌, ap, ◌∙◌}
use Rattle.filing.specs.Resolving.{names_of}
use Rattle.filing.proofs.Gathering.{begin, room_here, add_entry, add_names, meant_by}
use Rattle.filing.proofs.second.gather.Goals as goal

pub loop-entry-init : goal.loop-entry-init
loop-entry-init c = ([], begin _ _ _ _ c.requires.1.short c.new-scan.ensures)

pub add-requires : goal.add-requires
add-requires c = room_here _ _ _ _ _ c.loop-entry.invariant.1 _ _ c.in-Some.ensures c.in_default-entry.not-Names

pub loop-entry-preserved-in-Names : goal.loop-entry-preserved-in-Names
loop-entry-preserved-in-Names c =
    (c.loop-entry.invariant.0 ++ (c.in-Some.ensures.line ∷ []), add_names _ _ _ _ _ c.loop-entry.invariant.1 _ _ c.in-Some.ensures c.in-Names.is _ _ _ c.no_tables-in-Names.ensures.locks_are c.no_tables-in-Names.ensures.holders_are c.new-draft-in-Names.ensures)

pub loop-entry-preserved : goal.loop-entry-preserved
loop-entry-preserved c = (c.loop-entry.invariant.0 ++ (c.in-Some.ensures.line ∷ []), add_entry _ _ _ _ _ c.loop-entry.invariant.1 _ _ c.in-Some.ensures c.in_default-entry.not-Names _ c.add.ensures)

pub returns : goal.returns
returns c ts acc same =
    let still = c.in_default.ensures.1 in
    meant_by _ _ _ _ _ c.loop-entry.invariant.1 c.in_default.ensures.0 ts acc same c.new.result c.new-2.result
    (ap names_of (c.new.ensures ∙ c.locks.ensures ∙ ap (λ p. p.reader.locks) still))
    (ap names_of (c.new-2.ensures ∙ c.holders.ensures ∙ ap (λ p. p.reader.holders) still))
    c.finish.result c.finish.ensures
