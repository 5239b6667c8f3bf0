-- What holds within the library's limits holds of the library.
use borrow.Author.Rules.{rules}
use Rattle.listing.proofs.Demand3.{in_library}
use Rattle.listing.proofs.listing.Goals as goal

pub returns : goal.returns
returns c =
    let answered = c.listing_within.ensures in
    record { lists = answered.lists; demand3 = in_library _ _ _ _ _ _ _ _ answered.demand3 }
