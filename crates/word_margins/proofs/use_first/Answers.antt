-- A trace stands whole in front of its array.
use mathlib.Core.Path.{sym, ◌∙◌}
use native.Mathlib.Omega.{arith}
use Rattle.std.proofs.lemmas.List.{length-take-le}
use Rattle.one_best.proofs.Trace.{trace_front, trace_fits}
use borrow.Author.Rules.{rules}
use Rattle.word_margins.proofs.use_first.Goals as goal

pub trace_root-numbers-requires : goal.trace_root-numbers-requires
trace_root-numbers-requires c =
    (c.requires.0, c.requires.1, c.requires.0.kept)

pub slice_bounds-trace-end : goal.slice_bounds-trace-end
slice_bounds-trace-end c =
    let fits = trace_fits c.args.t.now c.args.rules.now c.args.d c.requires.1 c.requires.2 c.trace_root-numbers.ensures.1
    c.trace_root-numbers.ensures.0 in
    omega (arith, fits.0)

pub slice_bounds-use_nodes-end : goal.slice_bounds-use_nodes-end
slice_bounds-use_nodes-end c =
    let fits = trace_fits c.args.t.now c.args.rules.now c.args.d c.requires.1 c.requires.2 c.trace_root-numbers.ensures.1
    c.trace_root-numbers.ensures.0 in
    sym (length-take-le _ _ fits.0)

pub returns : goal.returns
returns c =
    c.use_nodes.ensures
    ∙ rw (trace_front c.args.t.now c.args.rules.now c.args.d c.requires.1 c.requires.2
    c.trace_root-numbers.ensures.1 c.trace_root-numbers.ensures.0)
