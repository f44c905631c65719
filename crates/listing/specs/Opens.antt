-- One name that opens all the definitions of the listing, for examples that are computed: `unfolding listing_definitions`.
use Rattle.plan.specs.Opens.{plan_definitions}
use Rattle.listing.specs.Listing.{digits, decimal, line, head_line, job_numbers, job_line, job_lines, listing_text, listed, list_call, listed_of, list_filled, refusal_line, page_of}

unfoldable pub listing_definitions : Type 1
unfolding plan_definitions digits decimal line head_line job_numbers job_line job_lines listing_text listed list_call listed_of list_filled refusal_line page_of
listing_definitions = Type 0
