use Rattle.std.proofs.Common.{◌≡◌, ◌<◌, ℕ, List, length, set, ap, sym, subst, arith, ◌∙◌}
use Rattle.std.proofs.lemmas.List.{get_or_read, length-set}
use Rattle.order_causal.specs.Orders.{op, StandsAt}
use Rattle.cert_check.specs.Schedules.{named}
use Rattle.cert_check.proofs.NamingSteps.{counts_here, named_last, session_counted, session_inside}
use Rattle.cert_check.proofs.naming.Naming.back.Goals as goal

pub count_off-requires-clause-inside : goal.count_off-requires-clause-inside
count_off-requires-clause-inside c =
    session_inside c.args.list.now c.args.place (length c.args.self.now.counts.items) c.from-session.result c.requires.within c.from-session.ensures
    c.args.self.now.counts.items c.requires.counts

pub count_off-requires-clause-counted : goal.count_off-requires-clause-counted
count_off-requires-clause-counted c =
    session_counted c.args.list.now c.args.place (length c.args.self.now.counts.items) c.from-session.result c.requires.within c.from-session.ensures
    c.args.self.now.counts.items c.requires.counts

-- the operation's session is still one of those counted
still_inside : (counts later : List ℕ) (s m : ℕ) → s < length counts → later ≡ set counts s m → s < length later
still_inside counts later s m inside off = let same = ap (λ (xs : List ℕ). length xs) off ∙ length-set counts s m in omega arith

pub index-requires : goal.index-requires
index-requires c =
    let counts = c.args.self.now.counts.items in
    let later = c.count_off.new.self.counts in
    let before = session_inside c.args.list.now c.args.place (length counts) c.from-session.result c.requires.within c.from-session.ensures
    counts c.requires.counts in
    let inside = still_inside counts later.items c.from-session.result _ before c.count_off.ensures in
    omega (arith, later.ok.0)

pub returns-clause-named : goal.returns-clause-named
returns-clause-named c =
    let counts = c.args.self.now.counts.items in
    let later = c.count_off.new.self.counts.items in
    let s = c.from-session.result in
    let stands = named_last c.args.list.now c.args.place (length counts) s c.requires.within c.from-session.ensures
    counts c.requires.counts later c.count_off.ensures in
    let before = session_inside c.args.list.now c.args.place (length counts) s c.requires.within c.from-session.ensures counts c.requires.counts in
    let inside = still_inside counts later s _ before c.count_off.ensures in
    let index = c.from.ensures ∙ get_or_read later s c.index.result.now inside c.index.ensures 0 in
    subst (StandsAt (named c.args.list.now) c.args.place) (ap (λ (n : ℕ). op s n) (sym index) ∙ sym c.at.ensures) stands

pub returns-clause-counts : goal.returns-clause-counts
returns-clause-counts c =
    counts_here c.args.list.now c.args.place (length c.args.self.now.counts.items) c.from-session.result c.requires.within c.from-session.ensures
    c.args.self.now.counts.items c.requires.counts c.count_off.new.self.counts.items c.count_off.ensures
