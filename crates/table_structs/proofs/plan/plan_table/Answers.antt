use Rattle.table_structs.proofs.plan.plan_table.Goals as goal

pub returns-in-Sbgp : goal.returns-in-Sbgp
returns-in-Sbgp c = rw c.in-Sbgp.is c.plan_sbgp.ensures

pub returns-in-Csgp : goal.returns-in-Csgp
returns-in-Csgp c = rw c.in-Csgp.is c.plan_csgp.ensures
