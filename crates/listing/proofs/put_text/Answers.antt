-- `put_text` meets its contract: the planner's refusal, or the text.
use Rattle.std.proofs.Common.{◌≡◌, Err, sym, ap, arith, rules, refl}
use Rattle.listing.specs.declared.text.Text.{Text}
use Rattle.listing.specs.CallLaws.{not_refused, text_refused, told_refused, told_text, list_done}
use Rattle.listing.proofs.Printing.{all_put}
use Rattle.listing.proofs.put_text.Goals as goal

pub returns-in_err-ok : goal.returns-in_err-ok
returns-in_err-ok c =
    let same : c.from_residual.result ≡ Err c.in_err-ok.field-0.0 = search rules in
    record { value = rw same (told_refused _ (text_refused _ _ (search rules) c.plan-planned.ensures.result (sym c.in_err-ok.ensures))); kept = rw same refl }

pub put_listing-requires : goal.put_listing-requires
put_listing-requires c =
    let listing = list_done _ _ (search rules) c.plan-planned.ensures.result (not_refused c.plan-planned.result (sym c.in_ok-ok.ensures)) c.plan-planned.ensures.filled c.graph-graph.ensures in
    (listing.few, omega (arith, listing.short, ap (λ (t : Text). t.length) c.requires))

pub returns : goal.returns
returns c =
    let listing = list_done _ _ (search rules) c.plan-planned.ensures.result (not_refused c.plan-planned.result (sym c.in_ok-ok.ensures)) c.plan-planned.ensures.filled c.graph-graph.ensures in
    record { value = told_text _ listing (all_put c.requires c.put_listing.ensures); kept = tt }
