mod Terms
