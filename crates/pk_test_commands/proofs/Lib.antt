mod PortLemmas
