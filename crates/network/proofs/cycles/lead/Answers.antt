use Rattle.std.proofs.Common.{arith, refl, rules, ◌∙◌}
use Rattle.network.specs.RowChains.{leads_start}
use Rattle.network.proofs.RowSteps.{rows_begin, rows_go_on, joined_size, rows_end, leads_on, leads_all}
use Rattle.network.proofs.cycles.lead.Goals as goal

pub loop-k-init : goal.loop-k-init
loop-k-init c = record { size = search rules; leads = leads_start _ _ }

pub loop-row-init : goal.loop-row-init
loop-row-init c = rows_begin _ _ _

pub loop-row-preserved : goal.loop-row-preserved
loop-row-preserved c = rows_go_on _ _ _ _ _ _ (search rules) c.loop-row.invariant c.join.ensures

pub loop-k-preserved : goal.loop-k-preserved
loop-k-preserved c = record {
  size = joined_size _ _ _ _ _ _ (omega (arith, c.requires, c.loop-k.invariant.size)) c.loop-row.invariant ∙ c.loop-k.invariant.size;
  leads = leads_on _ _ _ _ _ c.loop-k-test.true c.loop-k.invariant.leads (rows_end _ _ _ _ _ _ (omega (arith, c.requires, c.loop-k.invariant.size)) c.loop-row.invariant (search rules) refl);
}

pub returns : goal.returns
returns c = leads_all _ _ _ _ c.loop-k.auto.k-end c.loop-k-test.false c.loop-k.invariant.leads
