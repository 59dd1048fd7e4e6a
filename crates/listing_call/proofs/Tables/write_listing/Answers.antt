use Rattle.listing_call.proofs.Call.{empty-tables}
use Rattle.listing_call.proofs.Tables.write_listing.Goals as goal

pub read_listing-requires : goal.read_listing-requires
read_listing-requires c = empty-tables
