-- The parts of the line, in their order, from the front of the buffer.
use Rattle.text.specs.TextLaws.{put_none, put_more, put_append, put_front}
use Rattle.plan_listing.specs.Listing.{refused_line}
use Rattle.plan_listing.proofs.refused.Goals as goal

pub returns : goal.returns
unfolding refused_line
returns c =
    put_front (refused_line c.args.number) c.args.out.now c.put.new.out c.put.result
    (rw (c.put.ensures, c.put_number-line.ensures, c.put_all-name.ensures) (simp (put_append, put_more, put_none)))
