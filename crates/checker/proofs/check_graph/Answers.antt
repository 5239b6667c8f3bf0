-- The array's edges are those of the graph that was accepted.
use mathlib.Core.Path.{◌≡◌, refl, sym, ap}
use Prim.Native.Nat.{◌-◌}
use Rattle.std.proofs.Common.{Err, rules}
use Rattle.packing.specs.Graph.{graph_block}
use Rattle.packing.specs.Flat.{rules_of}
use Rattle.packing.proofs.Flat.{length_rules_at}
use Rattle.packing.proofs.Told.{accepted_told, refused_told}
use Rattle.graph_reader.specs.Answer.{graph_size}
use Rattle.graph_reader.specs.declared.GraphSize.{GraphSize}
use Rattle.checker.proofs.Answered.{graph_judged}
use Rattle.checker.proofs.check_graph.Goals as goal

pub returns-in_err-found : goal.returns-in_err-found
returns-in_err-found c =
    let a = c.args in
    let gone : c.from_residual.result ≡ Err c.in_err-found.field-0.0 = search rules in
    rw (gone, refused_told (graph_block a.words a.heard.now) graph_size c.in_err-found.ensures.0) (refl, tt)

pub returns : goal.returns
returns c =
    let a = c.args in
    let (h, e, z) = accepted_told (graph_block a.words a.heard.now) graph_size c.in_ok-found.ensures.0 in
    let judged = graph_judged a.words (rules_of a.rules.now a.count) a.heard.now a.reading.now c.read_graph.new.edges e c.read_graph.ensures.1
    (ap (λ (s : GraphSize). s.edges) z) (ap (λ (s : GraphSize). s.places - 1) z) (sym (length_rules_at a.rules.now 0 a.count)) in
    rw judged at c.check_path.ensures
