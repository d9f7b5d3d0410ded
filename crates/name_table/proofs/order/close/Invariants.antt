use Rattle.name_table.proofs.order.close.Given as goal

abbrev pub decreases-loop-member : goal.decreases-loop-member
decreases-loop-member l = goal.left-loop-member l
