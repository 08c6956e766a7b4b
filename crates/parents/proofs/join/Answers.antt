-- `parents::join` meets its contract: two numbers of one parent have one name, and else the two names are found and linked. Assumes nothing.
use native.Mathlib.Omega.{arith}
use Rattle.parents.proofs.Joining.{Names, join-idle, placed_first, placed-second, names, join-long, join-linked}
use Rattle.parents.proofs.join.Goals as goal

pub returns-then-parents-a : goal.returns-then-parents-a
returns-then-parents-a c = join-idle c.if-parents-a.true

pub find-i-requires : goal.find-i-requires
find-i-requires c = placed_first c.requires

pub find-j-requires : goal.find-j-requires
find-j-requires c = placed-second c.requires c.find-i.ensures

pub overflow_cast-parents : goal.overflow_cast-parents
overflow_cast-parents c =
    let at_names : Names c.find-i.ensures c.find-j.ensures = names c.find-i.ensures c.find-j.ensures c.requires in
    omega (arith, at_names.first)

pub offset_bounds-parents-max : goal.offset_bounds-parents-max
offset_bounds-parents-max c =
    let at_names : Names c.find-i.ensures c.find-j.ensures = names c.find-i.ensures c.find-j.ensures c.requires in
    omega (arith, at_names.first, at_names.second)

pub bounds-parents-max : goal.bounds-parents-max
bounds-parents-max c =
    let at_names : Names c.find-i.ensures c.find-j.ensures = names c.find-i.ensures c.find-j.ensures c.requires in
    omega (arith, at_names.first_in, at_names.second_in)

pub shape_of-parents : goal.shape_of-parents
shape_of-parents c =
    join-long c.find-i.ensures c.find-j.ensures c.requires c.max.result c.min.result

pub returns : goal.returns
returns c =
    join-linked c.find-i.ensures c.find-j.ensures c.max.result c.min.result (omega arith) (omega arith)
