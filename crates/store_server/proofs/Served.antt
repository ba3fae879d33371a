-- Serving goes on by one connection.
use Rattle.std.proofs.Common.{List, [], append-nil, ap, arith, inl, length, length-append, refl, subst, sym, ℕ, false, ◌+◌, ◌++◌, ◌<◌, ◌∙◌, ◌∷◌, ◌≡◌, ◌≤◌, ◌⊎◌}
use Rattle.std.specs.Prelude.{Err, None, Option, Some}
use Rattle.links.specs.Causes.{Rose}
use Rattle.net_links.specs.NetCauses.{HasNetCause}
use Rattle.net_links.specs.Traffics.{ClosesOne, IsFresh, IsNothing, KeepsClosed, TellsNothingYet}
use Rattle.net_links.specs.declared.link.NetFault.{NetFault}
use Rattle.net_links.specs.declared.link.NetFault.TheVariants.{Failed}
use Rattle.net_links.specs.declared.link.NetFault.TheVariants as net
use Rattle.store_model.specs.Store.{StoreView, gone_of}
use Rattle.desks.specs.Deeds.{Deed}
use Rattle.desks.specs.declared.desk.DeskFault.{DeskFault}
use Rattle.plain_desk.specs.StoreRuns.{LeadsLive, LeadsOn, live_state}
use Rattle.net_links.specs.LinkViews.{LinkView}
use Rattle.sessions.specs.SessionEnds.{HasSession}
use Rattle.sessions.specs.declared.conversing.SessionEnd.{SessionEnd}
use Rattle.sessions.proofs.Mapped.{heard_in, session_as}
use Rattle.store_server.specs.Servings.{HasServed, HasServedAll, HasServedOne, HasVisited, IsServeWhy, IsUnkept, store_goes, why_at, without}
use Rattle.store_server.specs.declared.serving.ServeWhy.{ServeWhy}
use Rattle.store_server.specs.declared.serving.ServeWhy.TheVariants.{Ended, Memory, Net}

module _ {D : Type 0} (conn_of : D → ℕ) (store_of : D → StoreView) (gives : ℕ → Type 0) (fault : Option DeskFault) (first now : D) (c : ℕ) (store : StoreView) (old new : LinkView) (turns : ℕ) (end : SessionEnd) (is_store : store_of first ≡ store) (is_conn : conn_of first ≡ c) where
  -- what a desk that has its store means by its deeds
  abbrev goes : D → List Deed → D → Type 0
  goes s l t = LeadsOn (conn_of s) (live_state (store_of s).spent (store_of s).state) l (conn_of t) (live_state (store_of t).spent (store_of t).state)

  over : (l : List Deed) → goes first l now → store_goes c store l (store_of now)
  over l w = (
    refl,
    subst (λ k. LeadsLive k (live_state store.spent store.state) l (live_state (store_of now).spent (store_of now).state)) is_conn
        (subst (λ (s : StoreView). LeadsLive (conn_of first) (live_state s.spent s.state) l (live_state (store_of now).spent (store_of now).state)) is_store w.1),
  )

  -- a session was had at a desk that has its store
  pub visited : (store2 : StoreView) → HasSession goes gives false fault first now old new turns end.commands end.why → store2 ≡ record { state = gone_of (store_of now).state (conn_of now); spent = (store_of now).spent }
      → HasVisited gives turns c store store2 old new end
  visited store2 s gone =
      let same : conn_of now ≡ c = (heard_in goes gives false fault first now old new turns s.receives s.stream s.sent end.commands end.why s.ends).went.0 ∙ is_conn in
      record {
        left = store_of now;
        fault = fault;
        session = session_as goes (store_goes c) gives false fault first now store (store_of now) over old new turns end.commands end.why s;
        gone = gone ∙ ap (λ k. without k (store_of now)) same;
      }

closed_same : (a : Option (List LinkView)) → KeepsClosed a a
closed_same None = tt
closed_same (Some l) = refl

closed_on : (a b d : Option (List LinkView)) → KeepsClosed a b → KeepsClosed b d → KeepsClosed a d
closed_on None b d p q = tt
closed_on (Some x) None d p q = absurd p
closed_on (Some x) (Some y) None p q = absurd q
closed_on (Some x) (Some y) (Some z) p q = q ∙ p

closed_one : (a b d : Option (List LinkView)) (t : LinkView) → KeepsClosed a b → ClosesOne b d t → ClosesOne a d t
closed_one None b d t p q = tt
closed_one (Some x) None d t p q = absurd p
closed_one (Some x) (Some y) None t p q = absurd q
closed_one (Some x) (Some y) (Some z) t p q = q ∙ ap (λ l. l ++ t ∷ []) p

-- a link that a net handed out which tells of its closed links as another did before
nothing_in : (bytes : Option (List ℕ)) → bytes ≡ Some [] → IsNothing bytes
nothing_in bytes none = subst (λ o. IsNothing o) (sym none) refl

untold_as : (a b : Option (List LinkView)) (l : LinkView) → KeepsClosed a b → TellsNothingYet b l → TellsNothingYet a l
untold_as None None l p u = u
untold_as None (Some y) l p (sent, received, gains) = (nothing_in l.sent sent, nothing_in l.received received)
untold_as (Some x) None l p u = absurd p
untold_as (Some x) (Some y) l p u = u

fresh_as : (a b : Option (List LinkView)) (l : LinkView) → KeepsClosed a b → IsFresh b l → IsFresh a l
fresh_as a b l p f = record { unused = untold_as a b l p f.unused; no_fault = f.no_fault; no_end = f.no_end }

one_after : (gives : ℕ → Type 0) (turns c : ℕ) (s t : StoreView) (a b d : Option (List LinkView)) (end : SessionEnd) → KeepsClosed a b → HasServedOne gives turns c s t b d end → HasServedOne gives turns c s t a d end
one_after gives turns c s t a b d end p o = record { link = o.link; link2 = o.link2; fresh = fresh_as a b o.link p o.fresh; visited = o.visited; carried = closed_one a b d _ p o.carried }

-- one connection more was served
pub serves_one : (gives : ℕ → Type 0) (turns c k : ℕ) (s m t : StoreView) (a b d : Option (List LinkView)) (ends : List SessionEnd) (end : SessionEnd) → k ≡ c + length ends
    → HasServedAll gives turns c s m a b ends → HasServedOne gives turns k m t b d end → HasServedAll gives turns c s t a d (ends ++ end ∷ [])
serves_one gives turns c k s m t a b d [] end is all o =
    let here : k ≡ c = omega (arith, is) in
    (t, d, one_after gives turns c s t a b d end all.1 (subst (λ i. HasServedOne gives turns i s t b d end) here (subst (λ x. HasServedOne gives turns k x t b d end) all.0 o)), (refl, closed_same d))
serves_one gives turns c k s m t a b d (e ∷ ends) end is (mid, between, first, rest) o =
    (mid, between, first, serves_one gives turns (c + 1) k mid m t between b d ends end (omega (arith, is)) rest o)

-- the net closed nothing before
pub serves_after : (gives : ℕ → Type 0) (turns c : ℕ) (s t : StoreView) (a b d : Option (List LinkView)) (ends : List SessionEnd) → KeepsClosed a b → HasServedAll gives turns c s t b d ends → HasServedAll gives turns c s t a d ends
serves_after gives turns c s t a b d [] p all = (all.0, closed_on a b d p all.1)
serves_after gives turns c s t a b d (e ∷ ends) p (mid, between, first, rest) = (mid, between, one_after gives turns c s mid a b between e p first, rest)

-- and nothing after
pub serves_before : (gives : ℕ → Type 0) (turns c : ℕ) (s m t : StoreView) (a b d : Option (List LinkView)) (ends : List SessionEnd) → HasServedAll gives turns c s m a b ends → t ≡ m → KeepsClosed b d → HasServedAll gives turns c s t a d ends
serves_before gives turns c s m t a b d [] all e q = (e ∙ all.0, closed_on a b d all.1 q)
serves_before gives turns c s m t a b d (x ∷ ends) (mid, between, first, rest) e q = (mid, between, first, serves_before gives turns (c + 1) mid m t between b d ends rest e q)

module _ (gives : ℕ → Type 0) (turns wanted : ℕ) (s m : StoreView) (a b : Option (List LinkView)) (f g : ℕ) (ends : List SessionEnd) (same : g ≡ f) (few : length ends ≤ wanted) (all : HasServedAll gives turns 1 s m a b ends) where
  served_so : (t : StoreView) (d : Option (List LinkView)) (h : ℕ) (why : ServeWhy) → HasServedAll gives turns 1 s t a d ends → f ≤ h → IsServeWhy wanted (length ends) f h why → IsUnkept why [] → HasServed gives turns wanted s t a d f h ends why
  served_so t d h why served later cause whole = record {
    unkept = [];
    served = subst (λ l. HasServedAll gives turns 1 s t a d l) (sym (append-nil ends)) served;
    few = subst (λ l. length l ≤ wanted) (sym (append-nil ends)) few;
    later = later;
    cause = cause;
    whole = whole;
  }

  -- all were served
  pub all_served : length ends ≡ wanted → HasServed gives turns wanted s m a b f g ends Ended
  all_served full = served_so m b g Ended all (omega (arith, same)) (full, same) refl

  -- the net gave no further link
  pub none_came : (t : StoreView) (d : Option (List LinkView)) (h : ℕ) (fault : NetFault) → (length ends < wanted) ⊎ (length ends ≡ 0) → t ≡ m → KeepsClosed b d → HasNetCause {T = SessionEnd} g h (Err fault) → HasServed gives turns wanted s t a d f h ends (why_at fault)
  none_came t d h Failed more e q cause = served_so t d h Net (serves_before gives turns 1 s m t a b d ends all e q) (omega (arith, same, cause.0)) (subst (λ (i : ℕ). Rose i h) same cause.1, more) refl
  none_came t d h net.Memory more e q cause = served_so t d h Memory (serves_before gives turns 1 s m t a b d ends all e q) (omega (arith, same, cause)) (cause ∙ same, more) (omega arith)

  -- the end of one more couldn't be kept
  pub one_unkept : (t : StoreView) (d : Option (List LinkView)) (h k : ℕ) (end : SessionEnd) → k ≡ 1 + length ends → k ≤ wanted → h ≡ g → HasServedOne gives turns k m t b d end → HasServed gives turns wanted s t a d f h ends Memory
  one_unkept t d h k end is within kept o = record {
    unkept = end ∷ [];
    served = serves_one gives turns 1 k s m t a b d ends end is all o;
    few = omega (arith, length-append ends (end ∷ []), is, within);
    later = omega (arith, same, kept);
    cause = (kept ∙ same, inl (omega (arith, is, within)));
    whole = omega arith;
  }

-- nothing was served yet
pub none_served : (gives : ℕ → Type 0) (turns : ℕ) (s : StoreView) (a : Option (List LinkView)) → HasServedAll gives turns 1 s s a a []
none_served gives turns s a = (refl, closed_same a)

-- the net listened before
pub served_after : (gives : ℕ → Type 0) (turns wanted : ℕ) (s t : StoreView) (a b d : Option (List LinkView)) (f g h : ℕ) (ends : List SessionEnd) (why : ServeWhy) → KeepsClosed a b → g ≡ f → HasServed gives turns wanted s t b d g h ends why
    → HasServed gives turns wanted s t a d f h ends why
served_after gives turns wanted s t a b d f g h ends why p same v = record {
  unkept = v.unkept;
  served = serves_after gives turns 1 s t a b d (ends ++ v.unkept) p v.served;
  few = v.few;
  later = omega (arith, same, v.later);
  cause = subst (λ (i : ℕ). IsServeWhy wanted (length ends) i h why) same v.cause;
  whole = v.whole;
}
