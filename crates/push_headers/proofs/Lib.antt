mod AskFacts
