-- A cluster that is computed: two members, of which one is elected, and then answers a put that both hold, and a read of it.
use Rattle.std.proofs.Common.{◌≡◌, ◌⊎◌, ℕ, List, [], ◌∷◌, ◌++◌, map, refl, sym, subst, arith, append-nil, inl, inr}
use Rattle.op_types.specs.declared.events.Request.TheVariants as request
use Rattle.op_types.specs.declared.log.Entry.TheVariants as entry
use Rattle.op_fields.specs.Form.{encoded}
use Rattle.op_serving.specs.Cores.{gives, after_input}
use Rattle.op_serving.specs.Reopenings.{FindStored}
use Rattle.op_serving.specs.Turns.{hello}
use Rattle.op_serving.specs.Wire.{peer_frame}
use Rattle.op_cluster_laws.specs.Lives.{Serves}
use Rattle.op_cluster_laws.specs.Nets.{IsPrefix}
use Rattle.op_cluster_laws.specs.Traces.{Happened}
use Rattle.op_linear.specs.Inhabited.{a_put, a_read, held_by, Exchanges, SomeClusterReads}
use Rattle.op_linear.proofs.Goes.{asks}
use Rattle.op_linear.proofs.Pairing.{Done, by_1, by_2, happened, born, first_of, mine_1, mine_2, AllKeep, two_nodes, Ranges, a_cluster}
use Rattle.op_linear.proofs.Exchanging.{dials_2, replies_2, promises_2, accepts_2, serves_2, meets_1, stands_1, leads_1, decides_1, serves_1}

whole : (xs : List ℕ) → IsPrefix xs xs
whole xs = ([], sym (append-nil xs))

abbrev steps : List Done
steps =
    map (λ d. by_2 d) dials_2 ++ (map (λ d. by_1 d) meets_1 ++ (map (λ d. by_2 d) replies_2 ++ (map (λ d. by_1 d) stands_1
    ++ (map (λ d. by_2 d) promises_2 ++ (map (λ d. by_1 d) leads_1 ++ (map (λ d. by_2 d) accepts_2 ++ map (λ d. by_1 d) decides_1))))))

serve_1 : Serves (first_of 1) (mine_1 steps)
unfolding mine_1
serve_1 = serves_1

serve_2 : Serves (first_of 2) (mine_2 steps)
unfolding mine_2
serve_2 = serves_2

found_1 : FindStored (first_of 1) (born 1).unstored (mine_1 steps)
unfolding mine_1
found_1 = (tt, (tt, (tt, (tt, (tt, (tt, (tt, (tt, (tt, (tt, (tt, (tt, tt))))))))))))

found_2 : FindStored (first_of 2) (born 2).unstored (mine_2 steps)
unfolding mine_2
found_2 = (tt, (tt, (tt, (tt, (tt, (tt, (tt, (tt, (tt, tt)))))))))

-- each end reads what the other one took
keep : AllKeep [] [] steps
unfolding hello peer_frame encoded
keep = (
  tt,
  (
    (refl, refl),
    (
      tt,
      (
        tt,
        (
          tt,
          (
            (refl, inr (refl, refl)),
            (
              inr (refl, whole _, refl, refl),
              (
                tt,
                (
                  tt,
                  (
                    tt,
                    (
                      tt,
                      (
                        tt,
                        (
                          (refl, whole _, refl, refl),
                          (
                            tt,
                            (
                              tt,
                              (
                                tt,
                                (
                                  tt,
                                  (
                                    inr (refl, whole _, refl, refl),
                                    (
                                      tt,
                                      (
                                        tt,
                                        (
                                          tt,
                                          (
                                            tt,
                                            (
                                              tt,
                                              (
                                                tt,
                                                (
                                                  (refl, whole _, refl, refl),
                                                  (
                                                    tt,
                                                    (
                                                      tt,
                                                      (
                                                        tt,
                                                        (
                                                          tt,
                                                          (
                                                            tt,
                                                            (
                                                              inr (refl, whole _, refl, refl),
                                                              (
                                                                (refl, inl (λ e. omega (arith, e))),
                                                                (
                                                                  inl (λ e. omega (arith, e), (asks (request.Command a_put) ++ asks (request.Read a_read), refl), refl),
                                                                  (
                                                                    tt,
                                                                    (
                                                                      tt,
                                                                      (
                                                                        tt,
                                                                        (
                                                                          tt,
                                                                          (
                                                                            tt,
                                                                            (
                                                                              tt,
                                                                              (
                                                                                tt,
                                                                                (
                                                                                  tt,
                                                                                  (
                                                                                    (refl, whole _, refl, refl),
                                                                                    (
                                                                                      tt,
                                                                                      (
                                                                                        tt,
                                                                                        (
                                                                                          tt,
                                                                                          (
                                                                                            tt,
                                                                                            (
                                                                                              tt,
                                                                                              (
                                                                                                tt,
                                                                                                (
                                                                                                  tt,
                                                                                                  (
                                                                                                    inr (refl, whole _, refl, refl),
                                                                                                    (
                                                                                                      tt,
                                                                                                      (
                                                                                                        tt,
                                                                                                        (
                                                                                                          tt,
                                                                                                          tt,
                                                                                                        ),
                                                                                                      ),
                                                                                                    ),
                                                                                                  ),
                                                                                                ),
                                                                                              ),
                                                                                            ),
                                                                                          ),
                                                                                        ),
                                                                                      ),
                                                                                    ),
                                                                                  ),
                                                                                ),
                                                                              ),
                                                                            ),
                                                                          ),
                                                                        ),
                                                                      ),
                                                                    ),
                                                                  ),
                                                                ),
                                                              ),
                                                            ),
                                                          ),
                                                        ),
                                                      ),
                                                    ),
                                                  ),
                                                ),
                                              ),
                                            ),
                                          ),
                                        ),
                                      ),
                                    ),
                                  ),
                                ),
                              ),
                            ),
                          ),
                        ),
                      ),
                    ),
                  ),
                ),
              ),
            ),
          ),
        ),
      ),
    ),
  ),
)

few : Ranges steps
unfolding gives after_input
few = record { messages = omega arith; proposals = omega arith }

abbrev trace : List Happened
trace = map happened steps

held : (p : ℕ) → (p ≡ 1) ⊎ (p ≡ 2) → held_by p trace ≡ entry.Command a_put ∷ []
unfolding gives after_input
held p (inl e) = subst (λ q. held_by q trace ≡ entry.Command a_put ∷ []) (sym e) refl
held p (inr e) = subst (λ q. held_by q trace ≡ entry.Command a_put ∷ []) (sym e) refl

exchanges : Exchanges trace
unfolding gives after_input
exchanges = record { held = λ p is. held p (two_nodes p is); put = refl; read = refl }

pub some_cluster_reads : SomeClusterReads
some_cluster_reads = (trace, a_cluster steps serve_1 serve_2 found_1 found_2 keep few, exchanges)
