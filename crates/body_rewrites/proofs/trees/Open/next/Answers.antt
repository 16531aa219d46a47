-- The next operator: no instruction, or one without a tree, or one with a tree.
use Rattle.std.proofs.Common.{[], ◌∷◌, ◌++◌, take, ◌∙◌, ap}
use Rattle.wasm_execution.specs.Values.{context_in}
use Rattle.body_rewrites.proofs.OpenLemmas as lemmas
use Rattle.body_rewrites.proofs.OpenTreeLemmas as tree_lemmas
use Rattle.body_rewrites.proofs.trees.Open.next.Goals as goal

pub returns-in_default-clause-open : goal.returns-in_default-clause-open
returns-in_default-clause-open c =
    let context = context_in c.args.info.now c.args.locals.now in
    let no = lemmas.no_code context c.args.operators.now c.args.at c.args.self.now c.requires.open c.requires.inside c.in_default.ensures.none in
    lemmas.closed context c.args.operators.now c.args.at c.args.self.now c.requires.open c.clear.new.self c.clear.ensures.starts c.clear.ensures.types
    (λ s code ts le st e. no s code le st)
    (lemmas.unmarked context c.args.operators.now c.args.at c.args.self.now c.requires.open no c.clear.new.self c.clear.ensures.rest)

pub returns-in_default-clause-found : goal.returns-in_default-clause-found
returns-in_default-clause-found c =
    let context = context_in c.args.info.now c.args.locals.now in
    let no = lemmas.no_code context c.args.operators.now c.args.at c.args.self.now c.requires.open c.requires.inside c.in_default.ensures.none in
    lemmas.no_tree context c.args.operators.now c.args.at (λ s code ts le st e. no s code le st)

pub returns-in_default-tree-clause-open : goal.returns-in_default-tree-clause-open
returns-in_default-tree-clause-open c =
    let context = context_in c.args.info.now c.args.locals.now in
    let has = rw c.in-Some.is at c.instr_at.ensures.some in
    let next = rw c.in_default-tree.is at c.tree.ensures in
    lemmas.closed context c.args.operators.now c.args.at c.args.self.now c.requires.open c.clear-in_default-tree.new.self
    c.clear-in_default-tree.ensures.starts c.clear-in_default-tree.ensures.types
    (lemmas.no_types context c.args.operators.now c.args.at c.args.self.now c.requires.open c.in-Some.instr has c.note.new.self c.note.ensures next)
    (lemmas.marked context c.args.operators.now c.args.at c.args.self.now c.requires.open c.in-Some.instr has c.note.new.self c.note.ensures
    c.clear-in_default-tree.new.self c.clear-in_default-tree.ensures.rest)

pub returns-in_default-tree-clause-found : goal.returns-in_default-tree-clause-found
returns-in_default-tree-clause-found c =
    let context = context_in c.args.info.now c.args.locals.now in
    let has = rw c.in-Some.is at c.instr_at.ensures.some in
    let next = rw c.in_default-tree.is at c.tree.ensures in
    lemmas.no_tree context c.args.operators.now c.args.at
    (lemmas.no_types context c.args.operators.now c.args.at c.args.self.now c.requires.open c.in-Some.instr has c.note.new.self c.note.ensures next)

pub returns-clause-open : goal.returns-clause-open
returns-clause-open c =
    let context = context_in c.args.info.now c.args.locals.now in
    let has = rw c.in-Some.is at c.instr_at.ensures.some in
    let told = rw c.in-Some-tree.is at c.tree.ensures in
    let starts = ap (λ v. v.items) c.note.ensures.starts in
    let types = ap (λ v. v.items) c.note.ensures.types in
    tree_lemmas.open_next context c.args.operators.now c.args.at c.args.self.now c.requires.open c.in-Some.instr has c.note.new.self c.note.ensures
    c.in-Some-tree.below c.in-Some-tree.tree told c.put.new.self
    (c.in_ok-put.ensures.starts ∙ ap (λ l. take c.in-Some-tree.below l ++ c.in-Some-tree.tree.start ∷ []) starts)
    (c.in_ok-put.ensures.types ∙ ap (λ l. take c.in-Some-tree.below l ++ c.in-Some-tree.tree.gives ∷ []) types) c.in_ok-put.ensures.rest

pub returns-clause-found : goal.returns-clause-found
returns-clause-found c =
    let context = context_in c.args.info.now c.args.locals.now in
    let has = rw c.in-Some.is at c.instr_at.ensures.some in
    let told = rw c.in-Some-tree.is at c.tree.ensures in
    tree_lemmas.has_tree context c.args.operators.now c.args.at c.args.self.now c.requires.open c.in-Some.instr has c.note.new.self c.note.ensures
    c.in-Some-tree.below c.in-Some-tree.tree told c.requires.inside
