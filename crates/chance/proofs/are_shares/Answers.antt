-- After i turns the shares up to i are shares, so whether all are is told by the rest.
use mathlib.Core.Path.{refl, sym, ◌∙◌}
use Rattle.chance.proofs.Shares.{none_left, too_small, too_great, is_share_lem}
use Rattle.chance.proofs.are_shares.Goals as goal

pub loop-share-init : goal.loop-share-init
loop-share-init c = refl

pub returns-then-share-lt-MIN_SHARE : goal.returns-then-share-lt-MIN_SHARE
returns-then-share-lt-MIN_SHARE c =
    sym (too_small c.args.shares.now c.loop-share.share-index c.loop-share-test.true c.if-share-lt-MIN_SHARE.true) ∙ c.loop-share.invariant

pub returns-then-share-gt-MAX_SHARE : goal.returns-then-share-gt-MAX_SHARE
returns-then-share-gt-MAX_SHARE c =
    sym (too_great c.args.shares.now c.loop-share.share-index c.loop-share-test.true c.if-share-lt-MIN_SHARE.false c.if-share-gt-MAX_SHARE.true)
    ∙ c.loop-share.invariant

pub loop-share-preserved : goal.loop-share-preserved
loop-share-preserved c =
    is_share_lem c.args.shares.now c.loop-share.share-index c.loop-share-test.true c.if-share-lt-MIN_SHARE.false c.if-share-gt-MAX_SHARE.false
    ∙ c.loop-share.invariant

pub returns : goal.returns
returns c = sym (none_left c.args.shares.now c.loop-share.share-index c.loop-share-test.false) ∙ c.loop-share.invariant
