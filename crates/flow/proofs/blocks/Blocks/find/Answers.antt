use Rattle.flow.proofs.Places.{placed_here}
use Rattle.flow.proofs.blocks.Blocks.find.Goals as goal

pub returns-in-Some : goal.returns-in-Some
returns-in-Some c =
    let b = c.args.self.now in
    let e = c.in-Some.ensures in
    placed_here b.ids.now b.places.now c.args.id c.in-Some.number b.few b.puts e.0 e.1
