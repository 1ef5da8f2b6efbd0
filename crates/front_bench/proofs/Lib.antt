mod DeskLemmas
