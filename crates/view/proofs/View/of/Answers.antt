-- A plan is long enough for its head.
use Rattle.view.proofs.Viewed.{headed}
use Rattle.view.proofs.View.of.Goals as goal

pub count_in-requires : goal.count_in-requires
count_in-requires c = headed _ _ c.requires c.edition_in-edition.ensures
