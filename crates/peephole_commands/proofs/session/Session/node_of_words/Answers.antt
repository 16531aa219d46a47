use Rattle.peephole_commands.proofs.Steps.{node_is}
use Rattle.peephole_script.specs.Text.{texts}
use Rattle.peephole_commands.proofs.session.Session.node_of_words.Goals as goal

pub returns : goal.returns
returns c =
    rw (node_is c.args.self.now c.args.text.now (texts c.args.words.now) c.node_count.result c.in_ok-children.children.items
    c.node_count.ensures.count c.in_ok-children.ensures.read) c.add_node.ensures
