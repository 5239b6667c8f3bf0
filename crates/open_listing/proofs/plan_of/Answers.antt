-- The form and the layout are those of the blocks.
use borrow.Author.Rules.{rules}
use Rattle.open_listing.proofs.Plans.{plan_is, plan_planned}
use Rattle.open_listing.proofs.plan_of.Goals as goal

pub returns : goal.returns
returns c =
    let b = c.args.inputs in
    let pre = c.requires in (
      plan_is b pre c.form_of.ensures.0 c.lay_out.ensures.0,
      plan_planned b pre c.form_of.ensures.0 c.lay_out.ensures.0 _ pre.places c.lay_out.ensures.1,
    )
